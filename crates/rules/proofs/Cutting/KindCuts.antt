-- Every cut of the kinds of store lists, from a sound table: what stands before the last token store of a put is not seen; between the
-- put and the clear of a move the table is a twin; under the flag the log can be made again.
-- Assumes nothing.
use Prim.Native.Nat.{ℕ, ◌+◌, ◌*◌, ◌≤◌}
use mathlib.Core.Path.{◌≡◌, refl}
use mathlib.Core.Bool.{false}
use mathlib.Core.List.{List, [], ◌∷◌, ◌++◌, Memᴰ as In}
use mathlib.Core.Option.{some}
use mathlib.Core.Logic.{inl, inr}
use native.Mathlib.Omega.{arith}
use lib.ListN.{length, take}
use Rattle.rules.specs.Words.{Table, header_of, InUse, flag_of, logged_of, place_of, token_word, key_word, function_word, place_word, key_in, record_in}
use Rattle.rules.specs.Words.{token_of, taken}
use Rattle.rules.specs.Places.{places_of}
use Rattle.rules.specs.Stores.{Store, put_stores, clear_stores, move_stores, log_stores, redo_stores, made}
use Rattle.rules.specs.Soundness.{TakenSlot, PlainMap, FlaggedTable}
use Rattle.rules.specs.Demands.{map_with}
use Rattle.rules.specs.declared.Header.{Header}
use Rattle.rules.specs.declared.Slot.{Slot}
use Rattle.rules.specs.declared.Record.{Record}
use Rattle.rules.proofs.Basics.Lists.{never}
use Rattle.rules.proofs.Words.Made.{Each, Misses, made_append, made_kept, made_left}
use Rattle.rules.proofs.Cutting.Cuts.{EveryCut, cuts_append, cuts_weaken}
use Rattle.rules.proofs.Places.PlacesInUse.{slot-within}
use Rattle.rules.proofs.Carrying.Carried.{carried_stays}
use Rattle.rules.proofs.Carrying.Moving.{Nothing, kept-alone}
use Rattle.rules.proofs.Carrying.Touched.{Touched, touched, unseen, unseen_orderly}
use Rattle.rules.proofs.Carrying.StoreKinds.{record_parts}
use Rattle.rules.proofs.Carrying.Blank.{Hidden, blank-sound}
use Rattle.rules.proofs.Carrying.Putting.{SoundMap, put_twin, log_sound}
use Rattle.rules.proofs.Carrying.ItemMoved.{move_whole}
use Rattle.rules.proofs.Cutting.Mending.{RedoMap, Mends, as_sound, as_twin, redo_cuts}

-- a record put to a free slot, its bucket's token word being w: nothing is seen before the token
pub put_cuts : (t : Table) (m : PlainMap) → SoundMap t m → (x : Slot) → InUse (header_of t).state x → taken t (header_of t) x ≡ false
    → (h : Header) (w key : ℕ) (r : Record)
    → (P : Table → Type 0) → ((u : Table) → SoundMap u m → P u) → P (made t (put_stores h w x key r)) → EveryCut P t (put_stores h w x key r)
unfolding put_stores function_word place_word
put_cuts t m whole x here free h w key r P unseen last =
    let blank : (xs : List Store) → Each (Hidden x) xs → P (made t xs) = λ xs e. unseen (made t xs) (blank-sound t m whole x here xs e (λ q. never q free)) in (
      unseen t whole,
      (
        blank ((key_word x, key) ∷ []) (inr (omega arith), tt),
        (
          blank ((key_word x, key) ∷ (key_word x + 1, r.function) ∷ []) (inr (omega arith), (inr (omega arith), tt)),
          (
            blank ((key_word x, key) ∷ (key_word x + 1, r.function) ∷ (key_word x + 2, r.place) ∷ [])
                (inr (omega arith), (inr (omega arith), (inr (omega arith), tt))),
            last,
          ),
        ),
      ),
    )

-- a move of one slot to another
pub move_cuts : (t : Table) (m : PlainMap) → SoundMap t m → (from to : Slot) → TakenSlot t from → InUse (header_of t).state to → taken t (header_of t) to ≡ false
    → In (place_of to) (places_of (header_of t) (key_in t from)) → (from.bucket ≡ to.bucket → ⊥)
    → EveryCut (λ (u : Table). Mends u m) t (move_stores t (header_of t) from to)
unfolding move_stores clear_stores
move_cuts t m whole from to item here free among apart =
    let h = header_of t in
    let puts = put_stores h (token_of t to.bucket) to (key_in t from) (record_in t from) in
    let twin = as_twin from to (put_twin t m whole to here free (key_in t from) (record_in t from) among from item refl refl) in
    let clears = clear_stores h (token_of t from.bucket) from in
    let moved : SoundMap (made (made t puts) clears) m = rw (made_append t puts clears) at (move_whole t m whole from to item here free among apart).whole in
    cuts_append (λ (u : Table). Mends u m) t puts clears
    (put_cuts t m whole to here free h (token_of t to.bucket) (key_in t from) (record_in t from) (λ (u : Table). Mends u m) (λ u s. as_sound s) twin)
    (twin, as_sound moved)

-- ---- the log

module _ (t : Table) (m : PlainMap) (whole : SoundMap t m) (x : Slot) (item : TakenSlot t x) (r : Record) where
  within : 9 + 13 * x.bucket + 13 ≤ length t
  within = (slot-within (length t) (header_of t) whole.sound.orderly.header x item.used).0

  -- stores to the flag and the log leave the slot's words
  abbrev Log : Store → Type 0
  Log s = (5 ≤ s.0) × (s.0 ≤ 8)

  log_misses : (i : ℕ) → 9 ≤ i → (xs : List Store) → Each Log xs → Misses i xs
  log_misses i l [] e = tt
  log_misses i l (s ∷ xs) e = (λ q. omega (arith, e.0), log_misses i l xs e.1)

  log_item : (xs : List Store) → Each Log xs → (key_in (made t xs) x ≡ key_in t x) × (record_in (made t xs) x ≡ record_in t x)
  unfolding key_in record_in key_word token_word function_word place_word
  log_item xs e = (
    made_kept t xs (key_word x) (log_misses _ (omega arith) xs e),
    rw (made_kept t xs (key_word x + 1) (log_misses _ (omega arith) xs e), made_kept t xs (key_word x + 2) (log_misses _ (omega arith) xs e)),
  )

  -- "words 6, 7, 8", and then "flag 1"
  logged : List Store
  logged = log_stores x r

  log_near : Touched t (made t logged) x
  unfolding logged
  log_near = touched x item.used.slot t logged (inl (omega arith), (inl (omega arith), (inl (omega arith), (inl (omega arith), tt))))

  log_token : token_of (made t logged) x.bucket ≡ token_of t x.bucket
  unfolding logged token_of token_word
  log_token = made_kept t logged (token_word x.bucket) (log_misses _ (omega arith) logged (omega arith, (omega arith, (omega arith, (omega arith, tt)))))

  flag_set : FlaggedTable (made t logged) x
  unfolding logged flag_of key_word token_word
  flag_set =
      let o = whole.sound.orderly in
      let u = made t logged in
      let kept = log_item logged (omega arith, (omega arith, (omega arith, (omega arith, tt)))) in
      let good = o.header.state in
      let carried = unseen (header_of t).c t u x log_near good item.used log_token (λ q. kept) in
      let flag = made_left t logged 5 1 (omega (arith, within)) (inr (inr (inr (inl (refl, refl, tt))))) in
      let orderly = unseen_orderly (header_of t).c t u x log_near good item.used log_token (λ q. kept) 0 1 o flag in
      record {
        orderly = orderly;
        alone = kept-alone t u _ orderly.header.state m whole.map carried whole.sound.alone;
        named = (carried_stays t u Nothing Nothing carried _ orderly.header.state log_near.header x item (λ n. n)).0;
        target = made_left t logged 6 (key_word x) (omega (arith, within)) (inl (refl, refl, (omega arith, (omega arith, (omega arith, tt)))));
      }

  log_words : logged_of (made t logged) ≡ r
  unfolding logged logged_of
  log_words =
      record_parts (made_left t logged 7 r.function (omega (arith, within)) (inr (inl (refl, refl, (omega arith, (omega arith, tt))))))
      (made_left t logged 8 r.place (omega (arith, within)) (inr (inr (inl (refl, refl, (omega arith, tt))))))

  redoing : RedoMap (made t logged) (map_with m (key_in t x) (some r)) x
  unfolding logged
  redoing = record { flagged = flag_set; brings = rw log_words (log_sound t m whole x item r).whole }

  -- "words 6, 7, 8; flag 1; function, place in the slot; flag 0": the log is not seen, and then it can be made again
  pub log_cuts : (P : Table → Type 0) → ((u : Table) → SoundMap u m → P u) → ((u : Table) → Mends u (map_with m (key_in t x) (some r)) → P u)
      → EveryCut P t (log_stores x r ++ redo_stores x r)
  unfolding logged
  log_cuts P before after =
      let blank : (xs : List Store) → Each (Hidden x) xs → Each Log xs → P (made t xs) =
      λ xs e f. before (made t xs) (blank-sound t m whole x item.used xs e (λ q. log_item xs f)) in
      let rest = cuts_weaken (λ (u : Table). Mends u (map_with m (key_in t x) (some r))) P after (made t logged)
      (redo_stores x (logged_of (made t logged))) (redo_cuts (made t logged) _ x redoing) in
      let again : EveryCut P (made t logged) (redo_stores x r) = rw log_words at rest in (
        before t whole,
        (
          blank (take 1 (log_stores x r)) (inl (omega arith), tt) (omega arith, tt),
          (
            blank (take 2 (log_stores x r)) (inl (omega arith), (inl (omega arith), tt)) (omega arith, (omega arith, tt)),
            (
              blank (take 3 (log_stores x r)) (inl (omega arith), (inl (omega arith), (inl (omega arith), tt))) (omega arith, (omega arith, (omega arith, tt))),
              again,
            ),
          ),
        ),
      )
