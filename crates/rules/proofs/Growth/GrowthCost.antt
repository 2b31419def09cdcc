-- "One whole growth from N top buckets .. spends at most 20N + 2 stores in its own calls, whatever but creation is called between", and one whole
-- shrink at most 40N + 2, neither with a turning back: the interim level begins with at most four items for each of its buckets, which are N / 2
-- or N, never gains one, and each accepted step, of at most ten stores, takes one away. No soundness is asked.
-- Assumes nothing.
use Prim.Native.Nat.{ℕ, ◌+◌, ◌-◌, ◌*◌, ◌^◌, ◌≤◌, ◌<◌}
use mathlib.Core.Path.{◌≡◌, refl, sym, ap, ◌∙◌}
use mathlib.Core.List.Memᴰ.{head as here}
use mathlib.Core.List.Memᴰ.{tail as there}
use mathlib.Core.List.{List, [], ◌∷◌, Memᴰ as In}
use mathlib.Core.Logic.{inl, inr}
use mathlib.Core.Option.{Option, none, some}
use native.Mathlib.Omega.{arith}
use lib.ListN.{length}
use lib.Pow.{pow_pos, pow-add}
use borrow.Author.Tests.{eqb-true}
use Rattle.rules.specs.Choice.{from}
use Rattle.rules.specs.Words.{Table, GoodHeader, header_of, flag_of, at_rest, state_word, size_of, interim_of, buckets_of, InLevel, place_of}
use Rattle.rules.specs.Words.{token_of, taken_of}
use Rattle.rules.specs.Places.{lookup}
use Rattle.rules.specs.Placing.{free_slot, placing}
use Rattle.rules.specs.Stores.{Store, placing_stores, update_stores, begun_of, shrunk_of, made}
use Rattle.rules.specs.Soundness.{finding}
use Rattle.rules.specs.Calls.{flag_clear, changing_tests, Outcome, refused, listed, placed_by, insert_in, update_in, delete_in, begin_tests, begin_of}
use Rattle.rules.specs.Calls.{shrink_tests, shrink_of, shrink, back}
use Rattle.rules.specs.Calls.{step_item, step_in, step_tests, step_of, recover_of, Call, query, insert, update, delete, begin, step_from, end, recover}
use Rattle.rules.specs.Calls.{tests_of, outcome}
use Rattle.rules.specs.Histories.{Event, whole, cut, kept, after, Every, History, Whole, own_stores, spent, OneResizing, NoTurningBack}
use Rattle.rules.specs.Demands.{Resizing, with_state, GrowthBound, ShrinkBound}
use Rattle.rules.specs.declared.State.{State}
use Rattle.rules.specs.declared.Header.{Header}
use Rattle.rules.specs.declared.Slot.{Slot}
use Rattle.rules.specs.declared.Record.{Record}
use Rattle.rules.specs.declared.Lookup.{Lookup}
use Rattle.rules.specs.declared.Lookup.TheVariants.{Stands, Absent}
use Rattle.rules.specs.declared.Placing.{Placing}
use Rattle.rules.specs.declared.Placing.TheVariants.{Free, Move, Nowhere}
use Rattle.rules.specs.declared.Finding.{Finding}
use Rattle.rules.specs.declared.Finding.TheVariants.{Sound, Doubled, Flagged, Neither}
use Rattle.rules.specs.declared.Refusal.TheVariants.{FlagSet, AlreadyResizing}
use Rattle.rules.proofs.Basics.Lists.{from_in, in_from}
use Rattle.rules.proofs.Words.States.{grown-interim, shrunk-interim}
use Rattle.rules.proofs.Words.Headers.{sizes, header-fits}
use Rattle.rules.proofs.Carrying.Restated.{state_stored}
use Rattle.rules.proofs.Calls.Checked.{checked-listed, checked_passed, accepted-header}
use Rattle.rules.proofs.Tables.Interims.{step-item}
use Rattle.rules.proofs.Places.Lookups.{lookup-stands, holder_taken}
use Rattle.rules.proofs.Tables.Findings.{KindOf, finding-means}
use Rattle.rules.proofs.Calls.StoreLists.{listed-one, never-listed, stores_as_written}
use Rattle.rules.proofs.Calls.StoreNumbers.{store_numbers}
use Rattle.rules.proofs.Calls.MadeLists.{stores_of, reported-stores, after-whole, accepted-lists, lists-accepted}
use Rattle.rules.proofs.Growth.InterimBits.{total, total_least, total_less, total_most, taken_most}
use Rattle.rules.proofs.Growth.InterimKept.{Drains, Steps, keeps_drains, placing-keeps, clear_drains, update_drains, redo_drains, step_less}

-- ---- the calls that leave the state: their stores, on a table that they accept

module _ (t : Table) (n : ℕ) (resizing : Resizing t) where
  -- no stores
  nothing-made : Drains t t
  nothing-made = record { header = refl; bits = λ j range. omega arith }

  insert_drains : (key : ℕ) (r : Record) (xs : List Store) → outcome t n (insert key r) ≡ listed xs → Drains t (made t xs)
  unfolding outcome
  insert_drains key r xs e = look (lookup t (header_of t) key) (checked-listed _ xs (changing_tests t n) e)
    where
      good : GoodHeader (length t) (header_of t)
      good = accepted-header t n (insert key r) xs e

      by_placing : (p : Placing) → placing t (header_of t) key ≡ p → placed_by p (placing_stores t (header_of t) p key r) ≡ listed xs
          → Drains t (made t xs)
      by_placing (Free x) q f = rw (listed-one f) (keeps_drains t _ (placing-keeps t good resizing key r (Free x) q))
      by_placing (Move from to) q f = rw (listed-one f) (keeps_drains t _ (placing-keeps t good resizing key r (Move from to) q))
      by_placing Nowhere q f = never-listed f

      look : (o : Lookup) → insert_in t (header_of t) o key r ≡ listed xs → Drains t (made t xs)
      look (Stands x m) f = never-listed f
      look (Absent m) f = by_placing (placing t (header_of t) key) refl f

  update-kept : (key : ℕ) (r : Record) (xs : List Store) → outcome t n (update key r) ≡ listed xs → Drains t (made t xs)
  unfolding outcome update_stores changing_tests flag_clear
  update-kept key r xs e = look (lookup t (header_of t) key) refl (checked-listed _ xs (changing_tests t n) e)
    where
      flag : flag_of t ≡ 0
      flag = eqb-true _ _ (checked_passed _ xs (changing_tests t n) e (flag_clear t, FlagSet) (there (there (here refl))))

      look : (o : Lookup) → lookup t (header_of t) key ≡ o → update_in t (header_of t) o key r ≡ listed xs → Drains t (made t xs)
      look (Stands x m) q f =
          let item = (holder_taken t key x (lookup-stands t key x m q).0).0 in
          rw (listed-one f) (update_drains t (accepted-header t n (update key r) xs e) resizing flag x item key r (free_slot t (header_of t) (place_of x)) refl)
      look (Absent m) q f = never-listed f

  delete_drains : (key : ℕ) (xs : List Store) → outcome t n (delete key) ≡ listed xs → Drains t (made t xs)
  unfolding outcome
  delete_drains key xs e = look (lookup t (header_of t) key) refl (checked-listed _ xs (changing_tests t n) e)
    where
      look : (o : Lookup) → lookup t (header_of t) key ≡ o → delete_in t (header_of t) o ≡ listed xs → Drains t (made t xs)
      look (Stands x m) q f = rw (listed-one f)
          (clear_drains t (accepted-header t n (delete key) xs e) resizing x (holder_taken t key x (lookup-stands t key x m q).0).0.used)
      look (Absent m) q f = never-listed f

  recover_drains : (xs : List Store) → outcome t n recover ≡ listed xs → Drains t (made t xs)
  unfolding outcome
  recover_drains xs e = go (finding t) (finding-means t) (checked-listed _ xs (tests_of t n recover) e)
    where
      good : GoodHeader (length t) (header_of t)
      good = accepted-header t n recover xs e

      go : (f : Finding) → KindOf t f → recover_of t (header_of t) f ≡ listed xs → Drains t (made t xs)
      go Sound k f = rw (listed-one f) nothing-made
      go (Doubled x y) k f = rw (listed-one f) (clear_drains t good resizing y k.later.used)
      go (Flagged x) k f = rw (listed-one f) (redo_drains t good resizing x k.named.used _)
      go Neither k f = never-listed f

  pub step-taken : (b : ℕ) (xs : List Store) → outcome t n (step_from b) ≡ listed xs → (x : Slot) × Steps t (made t xs) x
  unfolding outcome step_of
  step-taken b xs e = item (step_item t (header_of t) b) refl (checked-listed _ xs (step_tests t (header_of t) b) (checked-listed _ xs (changing_tests t n) e))
    where
      item : (o : Option Slot) → step_item t (header_of t) b ≡ o → step_in t (header_of t) o ≡ listed xs → (x : Slot) × Steps t (made t xs) x
      item none q f = never-listed f
      item (some x) q f = (x, rw (listed-one f) (step_less t (accepted-header t n (step_from b) xs e) resizing x (step-item t b x q).item.item _ refl))

  begin-refused : (xs : List Store) → outcome t n begin ≡ listed xs → ⊥
  unfolding outcome begin_of begin_tests at_rest
  begin-refused xs e = resizing
      (eqb-true _ _ (checked_passed _ xs (begin_tests (header_of t)) (checked-listed _ xs (changing_tests t n) e)
      (at_rest (header_of t).state, AlreadyResizing) (here refl)))

  shrink-refused : (xs : List Store) → outcome t n shrink ≡ listed xs → ⊥
  unfolding outcome shrink_of shrink_tests at_rest
  shrink-refused xs e = resizing
      (eqb-true _ _ (checked_passed _ xs (shrink_tests (header_of t)) (checked-listed _ xs (changing_tests t n) e)
      (at_rest (header_of t).state, AlreadyResizing) (here refl)))

-- ---- the items of the interim level

unfoldable pub count : Table → ℕ
count t = total (λ (j : ℕ). taken_of (header_of t) (token_of t j)) (buckets_of (size_of (interim_of (header_of t).state)))

in_interim : (s : State) (j : ℕ) → In j (buckets_of (size_of (interim_of s))) → InLevel (interim_of s) j
unfolding buckets_of
in_interim s j i = omega (arith, from_in (size_of (interim_of s) - 1) (size_of (interim_of s)) j i, pow_pos (interim_of s).exponent)

interim_in : (s : State) (j : ℕ) → InLevel (interim_of s) j → In j (buckets_of (size_of (interim_of s)))
unfolding buckets_of
interim_in s j r = in_from (size_of (interim_of s) - 1) (size_of (interim_of s)) j r.0 (omega (arith, r.1, pow_pos (interim_of s).exponent))

module _ (t u : Table) where
  drains_count : Drains t u → count u ≤ count t
  unfolding count
  drains_count s =
      rw s.header (total_least (λ j. taken_of (header_of t) (token_of u j)) (λ j. taken_of (header_of t) (token_of t j))
      (buckets_of (size_of (interim_of (header_of t).state))) (λ j i. s.bits j (in_interim (header_of t).state j i)))

  pub steps_count : (x : Slot) → Steps t u x → count u + 1 ≤ count t
  unfolding count
  steps_count x s =
      rw s.drains.header (total_less (λ j. taken_of (header_of t) (token_of u j)) (λ j. taken_of (header_of t) (token_of t j))
      (buckets_of (size_of (interim_of (header_of t).state)))
      (λ j i. s.drains.bits j (in_interim (header_of t).state j i)) x.bucket (interim_in (header_of t).state x.bucket s.range) s.less)

  still_resizing : header_of u ≡ header_of t → Resizing t → Resizing u
  still_resizing e g = λ q. g (rw e at q)

-- ---- a sequence of calls

own-none : (q : Call) → own_stores q 0 ≡ 0
own-none begin = refl
own-none shrink = refl
own-none back = refl
own-none (step_from b) = refl
own-none end = refl
own-none (query key) = refl
own-none (insert key r) = refl
own-none (update key r) = refl
own-none (delete key) = refl
own-none recover = refl

-- ten stores for each item that goes
abbrev Paid : Table → ℕ → Table → Type 0
Paid t own u = (own + 10 * count u ≤ 10 * count t) × Resizing u

drains_paid : (t u : Table) → Resizing t → Drains t u → Paid t 0 u
drains_paid t u resizing s = (omega (arith, drains_count t u s), still_resizing t u s.header resizing)

accepted_paid : (t : Table) (n : ℕ) → Resizing t → (q : Call) → (q ≡ end → ⊥) → (q ≡ back → ⊥) → (xs : List Store)
    → outcome t n q ≡ listed xs → Paid t (own_stores q (length xs)) (made t xs)
accepted_paid t n resizing (query key) other onward xs e = rw (stores_as_written t n (query key) xs e) (omega arith, resizing)
accepted_paid t n resizing (insert key r) other onward xs e = drains_paid t (made t xs) resizing (insert_drains t n resizing key r xs e)
accepted_paid t n resizing (update key r) other onward xs e = drains_paid t (made t xs) resizing (update-kept t n resizing key r xs e)
accepted_paid t n resizing (delete key) other onward xs e = drains_paid t (made t xs) resizing (delete_drains t n resizing key xs e)
accepted_paid t n resizing begin other onward xs e = absurd (begin-refused t n resizing xs e)
accepted_paid t n resizing shrink other onward xs e = absurd (shrink-refused t n resizing xs e)
accepted_paid t n resizing back other onward xs e = absurd (onward refl)
accepted_paid t n resizing (step_from b) other onward xs e =
    let s = step-taken t n resizing b xs e in
    let fewer = steps_count t (made t xs) s.0 s.1 in
    (omega (arith, (store_numbers t n (step_from b) xs e).1, fewer), still_resizing t (made t xs) s.1.drains.header resizing)
accepted_paid t n resizing end other onward xs e = absurd (other refl)
accepted_paid t n resizing recover other onward xs e = drains_paid t (made t xs) resizing (recover_drains t n resizing xs e)

-- a call with its list made, by its outcome
module _ (t : Table) (l : List ℕ) (q : Call) (xs : List Store) (e : outcome t (length l) q ≡ listed xs) where
  stores-made : after t (whole q l) ≡ made t xs
  stores-made = after-whole t l q ∙ ap (λ o. made t (stores_of o)) e

  stores-kept : kept t (whole q l) ≡ length xs
  stores-kept = reported-stores t l q ∙ ap (λ o. length (stores_of o)) e

-- from a table that grows or shrinks to the end of that
spent_most : (es : List Event) (t : Table) → Resizing t → Every Whole es → OneResizing t es → NoTurningBack t es → spent t es ≤ 10 * count t + 1
spent_most [] t resizing p o turned = omega arith
spent_most (cut q l n ∷ es) t resizing p o turned = absurd p.0
spent_most (whole q l ∷ es) t resizing p o turned = go (outcome t (length l) q) refl o (λ u g k j. spent_most es u g p.1 k j)
  where
    go : (r : Outcome) → outcome t (length l) q ≡ r → OneResizing t (whole q l ∷ es)
        → ((u : Table) → Resizing u → OneResizing u es → NoTurningBack u es → spent u es ≤ 10 * count u + 1)
        → spent t (whole q l ∷ es) ≤ 10 * count t + 1
    go (refused r) e (inl k) rest = never-listed (sym e ∙ (accepted-lists t l q k.0.1).1)
    go (refused r) e (inr k) rest =
        let same : after t (whole q l) ≡ t = after-whole t l q ∙ ap (λ o. made t (stores_of o)) e in
        let none : kept t (whole q l) ≡ 0 = reported-stores t l q ∙ ap (λ o. length (stores_of o)) e in
        rw (none, same, own-none q) (omega (arith, rest t resizing (rw same at k.1) (rw same at turned.1)))
    go (listed xs) e (inl k) rest =
        let ends : outcome t (length l) end ≡ listed xs = rw k.0.0 at e in
        rw (k.1, stores-kept t l q xs e, k.0.0, stores_as_written t (length l) end xs ends) (omega arith)
    go (listed xs) e (inr k) rest =
        let accepted = lists-accepted t l q xs e in
        let paid = accepted_paid t (length l) resizing q (λ i. k.0 (i, accepted)) (λ i. turned.0 (i, accepted)) xs e in
        let made = stores-made t l q xs e in
        rw (stores-kept t l q xs e, made) (omega (arith, paid.0, rest _ paid.1 (rw made at k.1) (rw made at turned.1)))

-- ---- from its begin, or from its shrink

-- the interim level's buckets have four slots each
pub count_most : (t : Table) → count t ≤ 4 * size_of (interim_of (header_of t).state)
unfolding count buckets_of
count_most t = total_most (λ j. taken_of (header_of t) (token_of t j)) 4 (λ j. taken_most (header_of t) (token_of t j)) _ (size_of (interim_of (header_of t).state))

-- what is called first stores a state that is not at rest: then every item of its interim level costs at most ten stores
module _ (t u : Table) (l : List ℕ) (first : Call) (s : State) (resizes : s.phase ≡ 0 → ⊥) (low : s.k < 256) where
  bound-from : (xs : List Store) → outcome t (length l) first ≡ listed xs → xs ≡ (4, state_word s) ∷ [] → own_stores first 1 ≡ 1
      → (es : List Event) → OneResizing (after t (whole first l)) es → NoTurningBack (after t (whole first l)) es
      → History Whole t (whole first l ∷ es) u → spent t (whole first l ∷ es) ≤ 40 * size_of (interim_of s) + 2
  unfolding with_state
  bound-from xs e list own es one turned history =
      let good = accepted-header t (length l) first xs e in
      let r = state_stored t s (header-fits (length t) (header_of t) good) low in
      let state : (header_of (made t xs)).state ≡ s = rw list (ap (λ (h : Header). h.state) r.header) in
      let items : count (made t xs) ≤ 4 * size_of (interim_of s) = rw state at (count_most (made t xs)) in
      let made = stores-made t l first xs e in
      let one_store : length xs ≡ 1 = ap length list in
      let rest = spent_most es _ (λ q. resizes (rw state at q)) history.permitted.1 (rw made at one) (rw made at turned) in
      rw (stores-kept t l first xs e, made, one_store, own) (omega (arith, rest, items))

-- "from N top buckets": after begin the interim level has half as many, and after shrink all of them
half-buckets : (k : ℕ) → 1 ≤ k → 40 * 2 ^ (k + 1 - 2) ≡ 20 * 2 ^ k
half-buckets k l =
    let double : 2 ^ (k - 1 + 1) ≡ 2 ^ (k - 1) * 2 ^ 1 = pow-add 2 (k - 1) 1 in
    let whole : 2 ^ (k - 1 + 1) ≡ 2 ^ k = ap (λ (e : ℕ). 2 ^ e) (omega arith) in
    let half : 2 ^ (k + 1 - 2) ≡ 2 ^ (k - 1) = ap (λ (e : ℕ). 2 ^ e) (omega arith) in
    omega arith

pub growth_bound : GrowthBound
unfolding state_word
growth_bound t u l es accepted one turned history =
    let lists = accepted-lists t l begin accepted in
    let z = sizes (length t) (header_of t) (accepted-header t (length l) begin lists.0 lists.1) in
    let s = begun_of (header_of t).state in
    let bound = bound-from t u l begin s (λ q. omega arith) (omega (arith, z.most, z.cap)) lists.0 lists.1
    (stores_as_written t (length l) begin lists.0 lists.1) refl es one turned history in
    omega (arith, bound, ap (λ (e : ℕ). 40 * 2 ^ e) (grown-interim s refl), half-buckets (header_of t).state.k z.least)

pub shrink_bound : ShrinkBound
unfolding state_word
shrink_bound t u l es accepted one turned history =
    let lists = accepted-lists t l shrink accepted in
    let z = sizes (length t) (header_of t) (accepted-header t (length l) shrink lists.0 lists.1) in
    let s = shrunk_of (header_of t).state in
    let bound = bound-from t u l shrink s (λ q. omega arith) (omega (arith, z.most, z.cap)) lists.0 lists.1
    (stores_as_written t (length l) shrink lists.0 lists.1) refl es one turned history in
    let whole : (header_of t).state.k - 1 + 1 ≡ (header_of t).state.k = omega (arith, z.least) in
    omega (arith, bound, ap (λ (e : ℕ). 40 * 2 ^ e) (shrunk-interim s refl ∙ whole))
