-- "word 6 the key word of a taken slot in a level in use": the slot that word 6 can name, by arithmetic.
-- Assumes nothing.
use Prim.Native.Nat.{ℕ, ◌+◌, ◌-◌, ◌*◌, ◌/◌, ◌%◌, ◌≤◌, ◌<◌}
use mathlib.Core.Path.{◌≡◌, refl, sym}
use mathlib.Core.Bool.{Bool, true, false}
use mathlib.Core.List.{Memᴰ as In}
use mathlib.Core.Option.{Option, none, some}
use native.Mathlib.Omega.{arith}
use lib.ListN.{length}
use lib.Dec.{leb}
use borrow.Author.Tests.{lt-leb, le-leb}
use Rattle.rules.specs.Choice.{given}
use Rattle.rules.specs.Words.{Table, header_of, GoodHeader, target_of, size_of, levels_in_use, InLevel, InUse, key_word, token_word, token_of, is_taken, taken}
use Rattle.rules.specs.Soundness.{target}
use Rattle.rules.specs.declared.State.{State}
use Rattle.rules.specs.declared.Header.{Header}
use Rattle.rules.specs.declared.Level.{Level}
use Rattle.rules.specs.declared.Slot.{Slot}
use Rattle.rules.proofs.Basics.Lists.{never, first_of-some, first_of-none, given-some, given-none}
use Rattle.rules.proofs.Basics.Tests.{Tells, tells_le, tells_and}
use Rattle.rules.proofs.Basics.Along.{along, along_all}
use Rattle.rules.proofs.Places.PlacesInUse.{slot-within}
use Rattle.rules.proofs.Tables.Twins.{taken_in_lem, in_taken}
use Rattle.rules.proofs.Tables.Targets.{target_found, target_none}
use Rattle.recovering.specs.Found.{in_level, home_of}

-- ---- a level, test by test

module _ (l : Level) (j : ℕ) {size : ℕ} (power : size ≡ size_of l) where
  pub below_level : j < size - 1 → false ≡ in_level j l
  unfolding in_level
  below_level h = rw (← power, lt-leb (size - 1) j h)

  pub above-level : size - 1 ≤ j → leb j (2 * size - 2) ≡ in_level j l
  unfolding in_level
  above-level h = rw (← power, le-leb (size - 1) j h)

-- ---- along the levels in use

module _ (s : State) (j : ℕ) where
  pub tried : Level → Option Level
  tried l = given (in_level j l) l

  pub levels_all : home_of s j ≡ along tried (levels_in_use s) 0
  unfolding home_of tried
  levels_all = along_all tried (levels_in_use s)

  module _ (l : Level) {b : Bool} (e : b ≡ in_level j l) where
    pub level_hit : b ≡ true → tried l ≡ some l
    unfolding tried
    level_hit q = rw (← e, q)

    pub level_pass : b ≡ false → tried l ≡ none
    unfolding tried
    level_pass q = rw (← e, q)

-- ---- the level of a bucket, as facts

in_level-tells : (l : Level) (j : ℕ) → Tells (in_level j l) (InLevel l j)
unfolding in_level
in_level-tells l j = tells_and _ _ (tells_le _ _) (tells_le _ _)

module _ (s : State) (j : ℕ) where
  home_found : (l : Level) → home_of s j ≡ some l → In l (levels_in_use s) × InLevel l j
  unfolding home_of
  home_found l e =
      let f = first_of-some (λ (m : Level). given (in_level j m) m) (levels_in_use s) l e in
      let r = given-some (in_level j f.found) f.found l f.gives in
      rw (← r.1) (f.inside, (in_level-tells f.found j).0 r.0)

  home_missed : home_of s j ≡ none → (l : Level) → In l (levels_in_use s) → InLevel l j → ⊥
  unfolding home_of
  home_missed e l i r = never ((in_level-tells l j).1 r) (given-none (in_level j l) l (first_of-none (λ (m : Level). given (in_level j m) m) (levels_in_use s) e l i))

-- ---- the slot

-- "Bucket j starts at word 9 + 13j"; "Slot s starts at offset 1 + 3s.": a key word tells its bucket and slot
key-word-parts : (x : Slot) → x.slot < 4 → (w : ℕ) → w ≡ key_word x → (9 ≤ w) × ((w - 9) / 13 ≡ x.bucket) × ((w - 9) % 13 ≡ 1 + 3 * x.slot)
unfolding key_word token_word
key-word-parts x l w e = omega arith

key-word-whole : (w level : ℕ) → 9 ≤ w → (w - 9) % 13 % 3 ≡ 1 → w ≡ key_word (record { level = level; bucket = (w - 9) / 13; slot = (w - 9) % 13 / 3 })
unfolding key_word token_word
key-word-whole w level l e = omega arith

module _ (t : Table) where
  pub word_low : target_of t < 9 → none ≡ target t
  word_low l = sym (target_none t (λ x i e. omega (arith, key-word-parts x (taken_in_lem t x i).used.slot (target_of t) e)))

  pub word-between : ((target_of t - 9) % 13 % 3 ≡ 1 → ⊥) → none ≡ target t
  word-between d = sym (target_none t (λ x i e. d (omega (arith, key-word-parts x (taken_in_lem t x i).used.slot (target_of t) e))))

  module _ {h : Header} (own : h ≡ header_of t) where
    pub word_outside : home_of h.state ((target_of t - 9) / 13) ≡ none → none ≡ target t
    word_outside e =
        sym (target_none t (λ x i q.
        let u = (taken_in_lem t x i).used in
        home_missed (header_of t).state _ (rw own at e) u.level u.used (rw (key-word-parts x u.slot (target_of t) q).1 u.bucket)))

    pub word-free : is_taken h (token_of t ((target_of t - 9) / 13)) ((target_of t - 9) % 13 / 3) ≡ false → none ≡ target t
    unfolding taken
    word-free f =
        sym (target_none t (λ x i q.
        let u = taken_in_lem t x i in
        let k = key-word-parts x u.used.slot (target_of t) q in
        let slot : (target_of t - 9) % 13 / 3 ≡ x.slot = omega arith in
        never u.shown (rw (own, k.1, slot) at f)))

    module _ (g : GoodHeader (length t) h) (q : (target_of t - 9) % 13 % 3 ≡ 1) {level : Level}
        (e : home_of h.state ((target_of t - 9) / 13) ≡ some level) where
      abbrev named : Slot
      named = record { level = level.name; bucket = (target_of t - 9) / 13; slot = (target_of t - 9) % 13 / 3 }

      named_in_use : InUse h.state named
      named_in_use =
          let r = home_found h.state _ level e in
          record { level = level; used = r.0; name = refl; bucket = r.1; slot = omega arith }

      pub named-within : 9 + 13 * ((target_of t - 9) / 13) + 13 ≤ length t
      named-within = (slot-within (length t) h g named named_in_use).0

      pub word_names : 9 ≤ target_of t → is_taken h (token_of t ((target_of t - 9) / 13)) ((target_of t - 9) % 13 / 3) ≡ true → some named ≡ target t
      unfolding taken
      word_names l f =
          sym (target_found t (rw own at g) named (in_taken t named (record { used = rw own at named_in_use; shown = rw own at f }))
          (key-word-whole (target_of t) level.name l q))
