-- Stores that touch one slot: its own words, its bucket's token word, and the flag and log, words 5 to 8. All else of the table stays:
-- the header, the other token words, the other slots' items.
-- Assumes nothing.
use Prim.Native.Nat.{ℕ, ◌+◌, ◌-◌, ◌^◌, ◌≤◌, ◌<◌}
use mathlib.Core.Path.{◌≡◌, refl, sym, ◌∙◌}
use mathlib.Core.Bool.{Bool, true, false}
use mathlib.Core.List.{List, [], ◌∷◌, Memᴰ as In}
use mathlib.Core.Logic.{◌⊎◌, inl, inr}
use native.Mathlib.Omega.{arith}
use native.Mathlib.Decide.{ℕ_discrete}
use lib.ListN.{length}
use Rattle.rules.specs.Words.{Table, word, GoodState, header_of, flag_of, InUse, InLevel, levels_in_use, token_word, key_word, function_word}
use Rattle.rules.specs.Words.{place_word, key_in, record_in, token_of, keys_of, is_taken, taken, meant_of}
use Rattle.rules.specs.Stores.{Store, made}
use Rattle.rules.specs.Soundness.{TakenSlot, OrderlyTable}
use Rattle.rules.specs.declared.Level.{Level}
use Rattle.rules.specs.declared.Slot.{Slot}
use Rattle.rules.proofs.Words.Addresses.{Of, off_token, of_one}
use Rattle.rules.proofs.Basics.Lists.{never}
use Rattle.rules.proofs.Words.Tokens.{Rekeyed, Follows, same-meant, kept_follows}
use Rattle.rules.proofs.Words.Made.{Each, Misses, made-long, made_kept}
use Rattle.rules.proofs.Places.PlacesInUse.{slot_by_bucket}
use Rattle.rules.proofs.Carrying.Moving.{Nothing}
use Rattle.rules.proofs.Carrying.Carried.{Carry, Carried, Placed, carried_placed}

abbrev pub Near : Slot → ℕ → Type 0
Near x i = ((5 ≤ i) × (i ≤ 8)) ⊎ ((i ≡ token_word x.bucket) ⊎ Of x i)

pub record Touched (t u : Table) (x : Slot) : Type 0 where
  pub long : length u ≡ length t
  pub header : header_of u ≡ header_of t
  pub tokens : (j : ℕ) → (j ≡ x.bucket → ⊥) → token_of u j ≡ token_of t j
  pub items : (y : Slot) → y.slot < 4 → (y.bucket ≡ x.bucket → y.slot ≡ x.slot → ⊥) → (key_in u y ≡ key_in t y) × (record_in u y ≡ record_in t y)

far_misses : (x : Slot) (i : ℕ) → (Near x i → ⊥) → (xs : List Store) → Each (λ (s : Store). Near x s.0) xs → Misses i xs
far_misses x i far [] e = tt
far_misses x i far (s ∷ xs) e = (λ q. far (rw q e.0), far_misses x i far xs e.1)

-- a word of the header, another bucket's token word, a word of another slot
module _ (x : Slot) (low : x.slot < 4) where
  header_far : (i : ℕ) → i < 5 → Near x i → ⊥
  unfolding token_word key_word
  header_far i l (inl n) = omega arith
  header_far i l (inr (inl n)) = omega arith
  header_far i l (inr (inr n)) = omega arith

  token_far : (j : ℕ) → (j ≡ x.bucket → ⊥) → Near x (token_word j) → ⊥
  unfolding token_word key_word
  token_far j d (inl n) = omega arith
  token_far j d (inr (inl n)) = d (omega arith)
  token_far j d (inr (inr n)) = off_token x j (token_word j) low n refl

  item_far : (y : Slot) → y.slot < 4 → (y.bucket ≡ x.bucket → y.slot ≡ x.slot → ⊥) → (i : ℕ) → Of y i → Near x i → ⊥
  unfolding token_word key_word
  item_far y l d i a (inl n) = omega arith
  item_far y l d i a (inr (inl n)) = off_token y x.bucket i l a n
  item_far y l d i a (inr (inr n)) = let same = of_one y x i l low a n in d same.0 same.1

  pub touched : (t : Table) (xs : List Store) → Each (λ (s : Store). Near x s.0) xs → Touched t (made t xs) x
  unfolding header_of token_of function_word place_word key_in record_in
  touched t xs near = record {
    long = made-long t xs;
    header = rw (
      kept 0 (header_far 0 (omega arith)),
      kept 1 (header_far 1 (omega arith)),
      kept 2 (header_far 2 (omega arith)),
      kept 3 (header_far 3 (omega arith)),
      kept 4 (header_far 4 (omega arith)),
    );
    tokens = λ j d. kept (token_word j) (token_far j d);
    items = λ y l d. (
      kept (key_word y) (item_far y l d (key_word y) (omega arith)),
      rw (kept (key_word y + 1) (item_far y l d (key_word y + 1) (omega arith)), kept (key_word y + 2) (item_far y l d (key_word y + 2) (omega arith))),
    );
  }
    where
      kept : (i : ℕ) → (Near x i → ⊥) → word (made t xs) i ≡ word t i
      kept i far = made_kept t xs i (far_misses x i far xs near)

-- ---- which items are carried

-- slot y is taken in u as it is in t, with the same item
pub record Stays (t u : Table) (y : Slot) : Type 0 where
  pub shown : taken u (header_of u) y ≡ taken t (header_of t) y
  pub key : key_in u y ≡ key_in t y
  pub value : record_in u y ≡ record_in t y

-- what becomes of slot y: it stays, and is not gone; or else it is gone or was free, and is new or is free
abbrev pub Seen : Table → Table → (Slot → Type 0) → (Slot → Type 0) → Slot → Type 0
Seen t u Gone New y =
    (Stays t u y × (Gone y → ⊥)) ⊎ ((taken t (header_of t) y ≡ true → Gone y) × (taken u (header_of u) y ≡ true → New y))

-- slot by slot, where the header stays
module _ (t u : Table) (header : header_of u ≡ header_of t) (Gone New : Slot → Type 0) where
  slotwise : ((y : Slot) → InUse (header_of t).state y → Seen t u Gone New y) → Carried t u Gone New
  slotwise each = record { out = λ y a. out y a (each y a.used); back = λ z a. back z a (each z (used z a.used)) }
    where
      used : (z : Slot) → InUse (header_of u).state z → InUse (header_of t).state z
      used z a = rw header at a

      carry : (y : Slot) → Stays t u y → TakenSlot t y → TakenSlot u y → Carry t u y y
      carry y s a b = record { before = a; after = b; bucket = refl; slot = refl; key = s.key; value = s.value }

      out : (y : Slot) → TakenSlot t y → Seen t u Gone New y → Gone y ⊎ ((z : Slot) × Carry t u y z)
      out y a (inl (s, g)) = inr (y, carry y s a (record { used = rw header a.used; shown = s.shown ∙ a.shown }))
      out y a (inr (g, n)) = inl (g a.shown)

      back : (z : Slot) → TakenSlot u z → Seen t u Gone New z → New z ⊎ ((y : Slot) × (Gone y → ⊥) × Carry t u y z)
      back z a (inl (s, g)) = inr (z, g, carry z s (record { used = used z a.used; shown = sym s.shown ∙ a.shown }) a)
      back z a (inr (g, n)) = inl (n a.shown)

module _ (c : ℕ) (t u : Table) (x : Slot) (near : Touched t u x) (good : GoodState c (header_of t).state) (here : InUse (header_of t).state x) where
  -- the bit of slot z in the bucket's token word, before and after
  abbrev bit_before : ℕ → Bool
  bit_before z = is_taken (header_of t) (token_of t x.bucket) z

  abbrev bit_after : ℕ → Bool
  bit_after z = is_taken (header_of t) (token_of u x.bucket) z

  stays : (y : Slot) → y.slot < 4 → (y.bucket ≡ x.bucket → y.slot ≡ x.slot → ⊥)
      → (y.bucket ≡ x.bucket → bit_after y.slot ≡ bit_before y.slot) → Stays t u y
  unfolding taken
  stays y l d e = record { shown = rw near.header (shown (ℕ_discrete y.bucket x.bucket)); key = (near.items y l d).0; value = (near.items y l d).1 }
    where
      shown : Dec (y.bucket ≡ x.bucket) → is_taken (header_of t) (token_of u y.bucket) y.slot ≡ is_taken (header_of t) (token_of t y.bucket) y.slot
      shown (yes q) = rw q (e q)
      shown (no n) = rw (near.tokens y.bucket n)

  -- a slot beside x, in its bucket: it stays, or it is gone
  pub turned : (Gone New : Slot → Type 0) → ((y : Slot) → (y.bucket ≡ x.bucket → ⊥) → Gone y → ⊥)
      → ((y : Slot) → InUse (header_of t).state y → y.bucket ≡ x.bucket → (y.slot ≡ x.slot → ⊥)
      → ((bit_after y.slot ≡ bit_before y.slot) × (Gone y → ⊥)) ⊎ (Gone y × (bit_after y.slot ≡ false)))
      → Seen t u Gone New x → Carried t u Gone New
  unfolding taken
  turned Gone New apart beside itself =
      slotwise t u near.header Gone New (λ y used. go y used (ℕ_discrete y.bucket x.bucket) (ℕ_discrete y.slot x.slot))
    where
      neighbour : (y : Slot) → InUse (header_of t).state y → y.bucket ≡ x.bucket → (y.slot ≡ x.slot → ⊥)
          → ((bit_after y.slot ≡ bit_before y.slot) × (Gone y → ⊥)) ⊎ (Gone y × (bit_after y.slot ≡ false)) → Seen t u Gone New y
      neighbour y used b n (inl (e, g)) = inl (stays y used.slot (λ q. n) (λ q. e), g)
      neighbour y used b n (inr (g, e)) = inr (λ q. g, λ q. never (rw (near.header, b) at q) e)

      go : (y : Slot) → InUse (header_of t).state y → Dec (y.bucket ≡ x.bucket) → Dec (y.slot ≡ x.slot) → Seen t u Gone New y
      go y used (no n) d = inl (stays y used.slot (λ q. absurd (n q)) (λ q. absurd (n q)), apart y n)
      go y used (yes b) (no n) = neighbour y used b n (beside y used b n)
      go y used (yes b) (yes s) = let same : y ≡ x = slot_by_bucket (header_of t).state c good y x used here b s in rw same itself

  -- ---- what stays orderly

  keys_kept : (j z : ℕ) → z < 4 → (j ≡ x.bucket → z ≡ x.slot → ⊥) → keys_of u j z ≡ keys_of t j z
  unfolding keys_of key_in key_word
  keys_kept j z l d = (near.items (record { level = 0; bucket = j; slot = z }) l d).0

  rekeyed : Rekeyed (keys_of t x.bucket) (keys_of u x.bucket) x.slot (key_in u x)
  unfolding keys_of key_in key_word
  rekeyed = record { here = refl; other = λ z l d. keys_kept x.bucket z l (λ b. d) }

  pub touched_orderly : (f g : ℕ) → OrderlyTable f t
      → Follows (header_of t) (token_of t x.bucket) (token_of u x.bucket) (keys_of t x.bucket) (keys_of u x.bucket) x.slot (key_in u x)
      → flag_of u ≡ g → Placed u → OrderlyTable g u
  unfolding meant_of
  touched_orderly f g o follows flag placed = record {
    header = rw (near.header, near.long) o.header;
    flag = flag;
    tidied = λ j l. tidied j (rw near.header at l) (ℕ_discrete j x.bucket);
    unused = λ j l free. unused j (rw near.header at l) (λ lv i. free lv (rw near.header i)) (ℕ_discrete j x.bucket);
    placed = placed;
  }
    where
      tidied : (j : ℕ) → j < 2 ^ ((header_of t).c + 1) - 1 → Dec (j ≡ x.bucket) → token_of u j ≡ meant_of u (header_of u) j
      tidied j l (yes e) = rw (e, near.header) (follows (o.tidied x.bucket (rw e at l)) rekeyed)
      tidied j l (no n) = rw (near.header, near.tokens j n) (same-meant (header_of t) _ _ _ (λ z k q. keys_kept j z k (λ b. absurd (n b))) (o.tidied j l))

      unused : (j : ℕ) → j < 2 ^ ((header_of t).c + 1) - 1 → ((l : Level) → In l (levels_in_use (header_of t).state) → InLevel l j → ⊥)
          → Dec (j ≡ x.bucket) → token_of u j ≡ 0
      unused j l free (yes e) = absurd (free here.level here.used (rw e here.bucket))
      unused j l free (no n) = near.tokens j n ∙ o.unused j l free

  -- where the token word stays, and x is free or keeps its item, nothing is seen of the stores
  module _ (token : token_of u x.bucket ≡ token_of t x.bucket)
      (same : taken t (header_of t) x ≡ true → (key_in u x ≡ key_in t x) × (record_in u x ≡ record_in t x)) where
    pub unseen : Carried t u Nothing Nothing
    unfolding taken
    unseen = turned Nothing Nothing (λ y n g. g) (λ y used b n. inl (rw token, λ g. g)) (itself (taken t (header_of t) x) refl)
      where
        itself : (b : Bool) → taken t (header_of t) x ≡ b → Seen t u Nothing Nothing x
        itself true q = inl (record { shown = rw (near.header, token); key = (same q).0; value = (same q).1 }, λ g. g)
        itself false q = inr (λ e. never e q, λ e. never (rw (near.header, token) at e) q)

    pub unseen_orderly : (f g : ℕ) → OrderlyTable f t → flag_of u ≡ g → OrderlyTable g u
    unfolding taken keys_of key_in key_word
    unseen_orderly f g o flag =
        touched_orderly f g o (λ m k. rw token (kept_follows (header_of t) _ _ _ x.slot _ (λ q. (same q).0) m k)) flag
        (carried_placed t u Nothing Nothing unseen near.header o.placed (λ z a n. absurd n))
