-- A header that passes its tests is good as a fact, and what a good header says of the levels' sizes.
-- Assumes nothing.
use Prim.Native.Nat.{ℕ, ◌+◌, ◌-◌, ◌*◌, ◌^◌, ◌≤◌, ◌<◌}
use mathlib.Core.Path.{◌≡◌}
use mathlib.Core.Bool.{true}
use native.Mathlib.Omega.{arith}
use borrow.Author.Tests.{leb-true, le-leb, eqb-true, eq-eqb}
use lib.Pow.{pow_pos, pow_mono, pow-add}
use Rattle.rules.specs.Choice.{all}
use Rattle.rules.specs.Words.{words_for, GoodState, odd, capacity_tests, header_tests, GoodHeader}
use Rattle.rules.specs.declared.Header.{Header}
use Rattle.rules.proofs.Basics.Tests.{all_yes}
use Rattle.rules.proofs.Words.Forms.{good-form, form_passes}
use Rattle.rules.proofs.Words.States.{good-state, state_passes, state-fits, good_wider}

pub good-header : (size : ℕ) (h : Header) → all (header_tests size h) ≡ true → GoodHeader size h
unfolding header_tests capacity_tests odd
good-header size h e =
    let y = all_yes (header_tests size h) e in
    let z = all_yes (capacity_tests h.c) (y 0) in
    record {
      capacity = (leb-true _ _ (z 0), leb-true _ _ (z 1));
      long = eqb-true _ _ (y 1);
      form = good-form h.form (y 2);
      odd1 = eqb-true _ _ (y 3);
      odd2 = eqb-true _ _ (y 4);
      state = good-state h.c h.state (y 5);
    }

-- ---- sizes

-- k is 1 to c, c at most 20
pub record Sizes (h : Header) : Type 0 where
  pub least : 1 ≤ h.state.k
  pub most : h.state.k ≤ h.c
  pub cap : h.c ≤ 20

pub sizes : (size : ℕ) (h : Header) → GoodHeader size h → Sizes h
sizes size h g =
    let fits = state-fits h.c h.state g.state in
    record { least = fits.0; most = fits.1; cap = g.capacity.1 }

-- the state of a good header is good for the largest c too: what code asks that is handed a state alone
pub header-state : (size : ℕ) (h : Header) → GoodHeader size h → GoodState 20 h.state
header-state size h g = good_wider h.c 20 h.state g.capacity.1 g.state

-- every bucket of a level of 2^e buckets, e at most c, lies in the table
pub bucket-fits : (size : ℕ) (h : Header) → GoodHeader size h → (e j : ℕ) → e ≤ h.c → j + 1 < 2 * 2 ^ e → 9 + 13 * j + 13 ≤ size
unfolding words_for
bucket-fits size h g e j l b =
    let w : 2 ^ (h.c + 1) ≡ 2 ^ h.c * 2 ^ 1 = pow-add 2 h.c 1 in
    omega (arith, g.long, pow_mono l, pow_pos e)

-- a table's words can be counted by half a word
pub table-small : (size : ℕ) (h : Header) → GoodHeader size h → size < 2 ^ 32
unfolding words_for
table-small size h g =
    let l : h.c + 1 ≤ 21 = omega (arith, g.capacity.1) in
    omega (arith, g.long, pow_mono l)

-- the i-th bucket of such a level, for a loop along them
pub next-bucket-fits : (size : ℕ) (h : Header) → GoodHeader size h → (e : ℕ) → e ≤ h.c → {power : ℕ} → power ≡ 2 ^ e → (i : ℕ) → i < power
    → 9 + 13 * (power - 1 + i) + 13 ≤ size
next-bucket-fits size h g e l {power} q i b = bucket-fits size h g e (power - 1 + i) l (rw (← q) (omega arith))

-- every bucket of the table, and the header's own words
pub all-buckets_fit : (size : ℕ) (h : Header) → GoodHeader size h → (j : ℕ) {power : ℕ} → power ≡ 2 ^ (h.c + 1) → j < power - 1 → 9 + 13 * j + 13 ≤ size
unfolding words_for
all-buckets_fit size h g j e l = omega (arith, g.long)

pub header-fits : (size : ℕ) (h : Header) → GoodHeader size h → 9 ≤ size
unfolding words_for
header-fits size h g = omega (arith, g.long)

-- ---- and a good header passes its tests

pub header_passes : (size : ℕ) (h : Header) → GoodHeader size h → all (header_tests size h) ≡ true
unfolding header_tests capacity_tests odd
header_passes size h g =
    rw (
      le-leb _ _ g.capacity.0,
      le-leb _ _ g.capacity.1,
      eq-eqb _ _ g.long,
      form_passes h.form g.form,
      eq-eqb _ _ g.odd1,
      eq-eqb _ _ g.odd2,
      state_passes h.c h.state g.state,
    )
