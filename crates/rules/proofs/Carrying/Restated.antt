-- The state word alone is stored: begin and end. No item moves, but the levels have other names and exponents: what is in use under the new
-- state, and what that leaves of a sound table. A level keeps its items where the new state has a level of the same size.
-- Assumes nothing.
use Prim.Native.Nat.{ℕ, ◌+◌, ◌-◌, ◌*◌, ◌/◌, ◌%◌, ◌^◌, ◌≤◌, ◌<◌}
use mathlib.Core.Path.{◌≡◌, refl, sym, ap, ◌∙◌}
use mathlib.Core.Bool.{Bool, true, false}
use mathlib.Core.List.Memᴰ
use mathlib.Core.List.Memᴰ.{head as here}
use mathlib.Core.List.Memᴰ.{tail as there}
use mathlib.Core.List.{List, [], ◌∷◌, Memᴰ as In}
use mathlib.Core.Logic.{◌⊎◌, inl, inr, ⊎_elim}
use native.Mathlib.Omega.{arith}
use native.Mathlib.Decide.{dec_le}
use lib.ListN.{length}
use Rattle.rules.specs.Words.{Table, word, GoodState, state_of, state_word, header_of, flag_of, size_of, levels_in_use, InLevel, InUse, place_at}
use Rattle.rules.specs.Words.{token_word, key_word, function_word, place_word, key_in, record_in, token_of, keys_of, is_taken, taken, meant_of}
use Rattle.rules.specs.Places.{hashes_of, first_place, second_place, places_in, probes, places_of}
use Rattle.rules.specs.Stores.{made}
use Rattle.rules.specs.Soundness.{TakenSlot, OrderlyTable}
use Rattle.rules.specs.Demands.{with_state}
use Rattle.rules.specs.declared.State.{State}
use Rattle.rules.specs.declared.Header.{Header}
use Rattle.rules.specs.declared.Level.{Level}
use Rattle.rules.specs.declared.Hashes.{Hashes}
use Rattle.rules.specs.declared.Place.{Place}
use Rattle.rules.specs.declared.Slot.{Slot}
use Rattle.rules.proofs.Basics.Lists.{never, flat_map_in, in_flat_map}
use Rattle.rules.proofs.Words.Forms.{state_hashes}
use Rattle.rules.proofs.Words.Tokens.{zero_free, meant_of_free, same-meant, state-taken, state-meant}
use Rattle.rules.proofs.Words.Made.{made-long, made_kept, made_left}
use Rattle.rules.proofs.Places.PlacesWithin.{place_in_level}
use Rattle.rules.proofs.Places.Candidates.{place_among}
use Rattle.rules.proofs.Carrying.Carried.{Carry, Carried, PlacedAt, Placed}
use Rattle.rules.proofs.Carrying.Moving.{Nothing}

-- u is t but for its state
pub record Restated (t u : Table) (s : State) : Type 0 where
  pub long : length u ≡ length t
  pub header : header_of u ≡ with_state (header_of t) s
  pub flag : flag_of u ≡ flag_of t
  pub tokens : (j : ℕ) → token_of u j ≡ token_of t j
  pub keys : (y z : Slot) → z.bucket ≡ y.bucket → z.slot ≡ y.slot → key_in u z ≡ key_in t y
  pub records : (y z : Slot) → z.bucket ≡ y.bucket → z.slot ≡ y.slot → record_in u z ≡ record_in t y

-- "state: k + 256·phase", written and read
state-read : (s : State) → s.k < 256 → state_of (state_word s) ≡ s
unfolding state_of state_word
state-read s l =
    let low : (s.k + 256 * s.phase) % 256 ≡ s.k = omega arith in
    let high : (s.k + 256 * s.phase) / 256 ≡ s.phase = omega arith in
    λ i. record { k = low i; phase = high i }

pub state_stored : (t : Table) (s : State) → 9 ≤ length t → s.k < 256 → Restated t (made t ((4, state_word s) ∷ [])) s
unfolding header_of with_state flag_of token_of token_word key_word function_word place_word key_in record_in
state_stored t s long low = record {
  long = made-long t xs;
  header = rw (
    kept 0 (λ e. omega arith),
    kept 1 (λ e. omega arith),
    kept 2 (λ e. omega arith),
    kept 3 (λ e. omega arith),
    made_left t xs 4 (state_word s) (omega arith) (inl (refl, refl, tt)),
    state-read s low,
  );
  flag = kept 5 (λ e. omega arith);
  tokens = λ j. kept (token_word j) (λ e. omega arith);
  keys = λ y z b n. rw (b, n) (kept (key_word y) (λ e. omega arith));
  records = λ y z b n. rw (b, n, kept (key_word y + 1) (λ e. omega arith), kept (key_word y + 2) (λ e. omega arith));
}
  where
    xs : List (ℕ × ℕ)
    xs = (4, state_word s) ∷ []

    kept : (i : ℕ) → (i ≡ 4 → ⊥) → word (made t xs) i ≡ word t i
    kept i d = made_kept t xs i (d, tt)

-- ---- the levels before and after

-- a bucket lies in a level, or not; in a level of a list, or in none
within? : (l : Level) (j : ℕ) → Dec (InLevel l j)
within? l j = go (dec_le (size_of l - 1) j) (dec_le j (2 * size_of l - 2))
  where
    go : Dec (size_of l - 1 ≤ j) → Dec (j ≤ 2 * size_of l - 2) → Dec (InLevel l j)
    go (yes a) (yes b) = yes (a, b)
    go (yes a) (no b) = no (λ r. b r.1)
    go (no a) d = no (λ r. a r.0)

in_level? : (j : ℕ) (ls : List Level) → ((l : Level) × In l ls × InLevel l j) ⊎ ((l : Level) → In l ls → InLevel l j → ⊥)
in_level? j [] = inr (λ l i. absurd (Memᴰ.not-nil i))
in_level? j (m ∷ ls) = go (within? m j) (in_level? j ls)
  where
    go : Dec (InLevel m j) → ((l : Level) × In l ls × InLevel l j) ⊎ ((l : Level) → In l ls → InLevel l j → ⊥)
        → ((l : Level) × In l (m ∷ ls) × InLevel l j) ⊎ ((l : Level) → In l (m ∷ ls) → InLevel l j → ⊥)
    go (yes a) k = inl (m, here refl, a)
    go (no a) (inl (l, i, r)) = inl (l, there i, r)
    go (no a) (inr f) = inr (λ l i r. ⊎_elim (λ (e : l ≡ m). a (rw e at r)) (λ (k : In l ls). f l k r) (Memᴰ.cases_cons i))

-- a level of the same exponent has places in the same buckets
place_again : (x : Hashes) (l m : Level) → m.exponent ≡ l.exponent → (p : Place) → In p (places_in x l)
    → (q : Place) × In q (places_in x m) × (q.bucket ≡ p.bucket)
unfolding first_place second_place place_at
place_again x l m e p i = go ((place_among x l p).0 i)
  where
    go : (p ≡ first_place x l) ⊎ (p ≡ second_place x l) → (q : Place) × In q (places_in x m) × (q.bucket ≡ p.bucket)
    go (inl f) = (first_place x m, (place_among x m (first_place x m)).1 (inl refl), rw e (sym (ap (λ (z : Place). z.bucket) f)))
    go (inr f) = (second_place x m, (place_among x m (second_place x m)).1 (inr refl), rw e (sym (ap (λ (z : Place). z.bucket) f)))

-- a level before: one of its exponent is in use after, or it has no item
abbrev pub Lasts : Table → State → Level → Type 0
Lasts t s l = ((m : Level) × In m (levels_in_use s) × (m.exponent ≡ l.exponent)) ⊎ ((y : Slot) → TakenSlot t y → InLevel l y.bucket → ⊥)

-- a level after: one of its exponent was in use before, or it has no token
abbrev pub Lasted : Table → Level → Type 0
Lasted t m = ((l : Level) × In l (levels_in_use (header_of t).state) × (l.exponent ≡ m.exponent)) ⊎ ((j : ℕ) → InLevel m j → token_of t j ≡ 0)

module _ (f : ℕ) (t u : Table) (s : State) (o : OrderlyTable f t) (re : Restated t u s) where
  after : (header_of u).state ≡ s
  unfolding with_state
  after = ap (λ (h : Header). h.state) re.header

  same_bits : (y z : Slot) → z.bucket ≡ y.bucket → z.slot ≡ y.slot → taken u (header_of u) z ≡ taken t (header_of t) y
  unfolding taken
  same_bits y z b n = rw (b, n, re.tokens y.bucket, re.header, state-taken (header_of t) s (token_of t y.bucket) y.slot)

  same_keys : (j z : ℕ) → keys_of u j z ≡ keys_of t j z
  unfolding keys_of key_in key_word
  same_keys j z = let x : Slot = record { level = 0; bucket = j; slot = z } in re.keys x x refl refl

  carry : (y z : Slot) → TakenSlot t y → InUse s z → z.bucket ≡ y.bucket → z.slot ≡ y.slot → Carry t u y z
  carry y z a used b n = record {
    before = a;
    after = record { used = rw after used; shown = same_bits y z b n ∙ a.shown };
    bucket = b;
    slot = n;
    key = re.keys y z b n;
    value = re.records y z b n;
  }

  -- slot y under the name of another level of its exponent
  renamed : Level → Slot → Slot
  renamed m y = record { level = m.name; bucket = y.bucket; slot = y.slot }

  renamed_used : (r : State) (l m : Level) (y : Slot) → In m (levels_in_use r) → m.exponent ≡ l.exponent → InLevel l y.bucket → y.slot < 4
      → InUse r (renamed m y)
  unfolding renamed
  renamed_used r l m y i e range low = record { level = m; used = i; name = refl; bucket = rw e range; slot = low }

  module _ (lasts : (l : Level) → In l (levels_in_use (header_of t).state) → Lasts t s l) (lasted : (m : Level) → In m (levels_in_use s) → Lasted t m) where
    pub restated_carried : Carried t u Nothing Nothing
    unfolding renamed taken
    restated_carried = record { out = λ y a. out y a (lasts a.used.level a.used.used); back = λ z a. back z a (rw after at a.used) }
      where
        out : (y : Slot) (a : TakenSlot t y) → Lasts t s a.used.level → Nothing y ⊎ ((z : Slot) × Carry t u y z)
        out y a (inl (m, i, e)) =
            inr (renamed m y, carry y (renamed m y) a (renamed_used s a.used.level m y i e a.used.bucket a.used.slot) refl refl)
        out y a (inr none) = absurd (none y a a.used.bucket)

        stood : (z : Slot) → TakenSlot u z → (used : InUse s z) → Lasted t used.level → Nothing z ⊎ ((y : Slot) × (Nothing y → ⊥) × Carry t u y z)
        stood z a used (inl (l, i, e)) =
            let y = renamed l z in
            let item : TakenSlot t y =
            record {
              used = renamed_used (header_of t).state used.level l z i e used.bucket used.slot;
              shown =
                  sym (same_bits y z refl refl) ∙ a.shown;
            } in
            inr (y, λ g. g, carry y z item used refl refl)
        stood z a used (inr none) = absurd (never a.shown (rw (re.tokens z.bucket, none z.bucket used.bucket) (zero_free (header_of u) z.slot)))

        back : (z : Slot) → TakenSlot u z → InUse s z → Nothing z ⊎ ((y : Slot) × (Nothing y → ⊥) × Carry t u y z)
        back z a used = stood z a used (lasted used.level used.used)

    -- each item stands in a place of its key still
    restated_placed : Placed u
    unfolding places_of probes with_state
    restated_placed z a = go (restated_carried.back z a)
      where
        again : (y : Slot) (k : Carry t u y z) (p : Place) → p.bucket ≡ y.bucket → (l : Level) → In l (levels_in_use (header_of t).state)
            → In p (places_in (hashes_of (header_of t) (key_in t y)) l) → Lasts t s l → PlacedAt u z
        again y k p b l i j (inl (m, n, e)) =
            let q = place_again (hashes_of (header_of t) (key_in t y)) l m e p j in (
              q.0,
              rw (re.header, k.key, state_hashes (header_of t) s (key_in t y)) (in_flat_map (places_in (hashes_of (header_of t) (key_in t y))) n q.1),
              q.2 ∙ b ∙ sym k.bucket,
            )
        again y k p b l i j (inr none) =
            let r = place_in_level (hashes_of (header_of t) (key_in t y)) l p j in
            absurd (none y k.before (rw b at r.1, omega (arith, r.2, b)))

        go : Nothing z ⊎ ((y : Slot) × (Nothing y → ⊥) × Carry t u y z) → PlacedAt u z
        go (inl n) = absurd n
        go (inr (y, g, k)) =
            let p = o.placed y k.before in
            let r = flat_map_in (places_in (hashes_of (header_of t) (key_in t y))) (levels_in_use (header_of t).state) p.0 p.1 in
            again y k p.0 p.2 r.0 r.1 r.2 (lasts r.0 r.1)

    -- a level without an item has no token
    tokenless : (l : Level) → In l (levels_in_use (header_of t).state) → ((y : Slot) → TakenSlot t y → InLevel l y.bucket → ⊥) → (j : ℕ)
        → j < 2 ^ ((header_of t).c + 1) - 1 → InLevel l j → token_of t j ≡ 0
    unfolding taken meant_of
    tokenless l i none j inside range =
        o.tidied j inside ∙ meant_of_free (header_of t) (token_of t j) (keys_of t j) (λ n low. bit n low (is_taken (header_of t) (token_of t j) n) refl)
      where
        bit : (n : ℕ) → n < 4 → (b : Bool) → is_taken (header_of t) (token_of t j) n ≡ b → b ≡ false
        bit n low true q = absurd
            (none (record { level = l.name; bucket = j; slot = n })
            (record { used = record { level = l; used = i; name = refl; bucket = range; slot = low }; shown = q }) range)
        bit n low false q = refl

    restated_unused : (j : ℕ) → j < 2 ^ ((header_of t).c + 1) - 1 → ((m : Level) → In m (levels_in_use s) → InLevel m j → ⊥) → token_of t j ≡ 0
    restated_unused j inside free = go (in_level? j (levels_in_use (header_of t).state))
      where
        held : (l : Level) → In l (levels_in_use (header_of t).state) → InLevel l j → Lasts t s l → token_of t j ≡ 0
        held l i r (inl (m, n, e)) = absurd (free m n (rw e r))
        held l i r (inr none) = tokenless l i none j inside r

        go : ((l : Level) × In l (levels_in_use (header_of t).state) × InLevel l j) ⊎ ((l : Level) → In l (levels_in_use (header_of t).state)
            → InLevel l j → ⊥) → token_of t j ≡ 0
        go (inl (l, i, r)) = held l i r (lasts l i)
        go (inr none) = o.unused j inside none

    pub restated_orderly : GoodState (header_of t).c s → OrderlyTable f u
    unfolding with_state meant_of
    restated_orderly good = record {
      header = record {
        capacity = rw re.header o.header.capacity;
        long = rw (re.header, re.long) o.header.long;
        form = rw re.header o.header.form;
        odd1 = rw re.header o.header.odd1;
        odd2 = rw re.header o.header.odd2;
        state = rw re.header good;
      };
      flag = re.flag ∙ o.flag;
      tidied = λ j l. rw (re.header, re.tokens j, state-meant (header_of t) s (token_of t j) (keys_of u j))
          (same-meant (header_of t) _ _ _ (λ z k q. same_keys j z) (o.tidied j (rw re.header at l)));
      unused = λ j l free. re.tokens j ∙ restated_unused j (rw re.header at l) (λ m i. free m (rw after i));
      placed = restated_placed;
    }
