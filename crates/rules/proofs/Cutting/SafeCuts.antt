-- "A cut after any number of them is accepted by recovery .., which .. brings back exactly the map before or the map after": each
-- call's list from a sound table, by the kinds that it is put together from. No call's law mentions recovery: what a cut leaves is one
-- of the kinds that it mends.
-- Assumes nothing.
use Prim.Native.Nat.{ℕ, ◌≤◌}
use mathlib.Core.Path.{◌≡◌, refl, sym, ◌∙◌}
use mathlib.Core.Bool.{true}
use mathlib.Core.List.{List, [], ◌∷◌, ◌++◌, append_assoc}
use mathlib.Core.Logic.{◌⊎◌, inl, inr}
use mathlib.Core.Option.{Option, none, some}
use native.Mathlib.Decide.{dec_le, ℕ_discrete}
use native.Mathlib.Omega.{arith}
use Rattle.rules.specs.Words.{Table, header_of, place_of, key_in, record_in, token_of, hide}
use Rattle.rules.specs.Places.{lookup}
use Rattle.rules.specs.Placing.{free_slot, placing, somewhere}
use Rattle.rules.specs.Stores.{Store, put_stores, clear_stores, move_stores, placing_stores, update_with, update_stores, step_stores, made}
use Rattle.rules.specs.Soundness.{TakenSlot, PlainMap}
use Rattle.rules.specs.Calls.{Outcome, refused, listed, placed_by, insert_in, update_in, step_item, step_in, step_tests, step_of, Call, query, insert}
use Rattle.rules.specs.Calls.{update, delete, begin, shrink, back, step_from, end, recover, outcome}
use Rattle.rules.specs.Demands.{AtRest, Given, Gives, map_with, map_after, InterimItem, None, NoInterim, InterimFrom, FirstWithPlace}
use Rattle.rules.specs.Demands.{NoneHasPlace, InsertBy, ChangeBy, StepBy, Written}
use Rattle.rules.specs.declared.State.{State}
use Rattle.rules.specs.declared.Slot.{Slot}
use Rattle.rules.specs.declared.Record.{Record}
use Rattle.rules.specs.declared.Placing.{Placing}
use Rattle.rules.specs.declared.Placing.TheVariants.{Free, Move, Nowhere}
use Rattle.rules.specs.declared.Refusal.TheVariants.{NoPlace, InterimEmpty, InterimTaken}
use Rattle.rules.proofs.Basics.Lists.{never}
use Rattle.rules.proofs.Words.Made.{made_append}
use Rattle.rules.proofs.Words.FreeSlots.{free-slot}
use Rattle.rules.proofs.Places.PlacesInUse.{among_used, place_of_slot, slot_of_place}
use Rattle.rules.proofs.Places.Placings.{MoveFor, placed-somewhere, placing-free, placing_move}
use Rattle.rules.proofs.Tables.Interims.{step-item}
use Rattle.rules.proofs.Places.Lookups.{lookup-known, lookup_unknown}
use Rattle.rules.proofs.Calls.Checked.{checked-listed}
use Rattle.rules.proofs.Calls.StoreLists.{listed-one, never-listed, stores_as_written}
use Rattle.rules.proofs.Tables.Findings.{recover_answers}
use Rattle.rules.proofs.Calls.Passing.{passes, whole_of}
use Rattle.rules.proofs.Carrying.Putting.{SoundMap}
use Rattle.rules.proofs.Calls.Inserting.{insert_answers}
use Rattle.rules.proofs.Calls.Updating.{update_answers, delete_answers}
use Rattle.rules.proofs.Calls.StateChanges.{begin_answers, shrink_answers, back_answers, end_answers}
use Rattle.rules.proofs.Calls.GrowthSteps.{not_interim, elsewhere, step_answers}
use Rattle.rules.proofs.Carrying.ItemMoved.{AfterMove, move_whole}
use Rattle.rules.proofs.Cutting.Cuts.{EveryCut, cuts_append, cuts_weaken}
use Rattle.rules.proofs.Cutting.Mending.{Mends, as_sound}
use Rattle.rules.proofs.Cutting.KindCuts.{put_cuts, move_cuts, log_cuts}

-- before a change from m to n, or after it
abbrev pub Either : PlainMap → PlainMap → Table → Type 0
Either m n u = Mends u m ⊎ Mends u n

-- one store, or none: the table before and the table after
one-cut : (t : Table) (m n : PlainMap) (s : Store) → SoundMap t m → SoundMap (made t (s ∷ [])) n → EveryCut (Either m n) t (s ∷ [])
one-cut t m n s a b = (inl (as_sound a), inr (as_sound b))

module _ (t : Table) (m : PlainMap) (whole : SoundMap t m) where
  -- a move that makes room for a key, and then what is put in the slot that it freed
  moving : (key : ℕ) (from to : Slot) → MoveFor t (header_of t) key from to → AfterMove t (made t (move_stores t (header_of t) from to)) m from to
  moving key from to f =
      let g = f.goal in
      move_whole t m whole from to (record { used = among_used (header_of t) key from f.slot f.among; shown = f.item })
      (among_used (header_of t) (key_in t from) to g.slot g.among) g.free g.among f.apart

  moving_cuts : (key : ℕ) (from to : Slot) → MoveFor t (header_of t) key from to
      → EveryCut (λ (u : Table). Mends u m) t (move_stores t (header_of t) from to)
  moving_cuts key from to f =
      let g = f.goal in
      move_cuts t m whole from to (record { used = among_used (header_of t) key from f.slot f.among; shown = f.item })
      (among_used (header_of t) (key_in t from) to g.slot g.among) g.free g.among f.apart

  -- insert: the placing's stores
  placing_cuts : (key : ℕ) (r : Record) (n : PlainMap) (p : Placing) → placing t (header_of t) key ≡ p
      → SoundMap (made t (placing_stores t (header_of t) p key r)) n → EveryCut (Either m n) t (placing_stores t (header_of t) p key r)
  unfolding placing_stores
  placing_cuts key r n (Free x) e last =
      let f = placing-free t (header_of t) key x e in
      put_cuts t m whole x (among_used (header_of t) key x f.slot f.among) f.free (header_of t) (token_of t x.bucket) key r (Either m n)
      (λ u s. inl (as_sound s)) (inr (as_sound last))
  placing_cuts key r n (Move from to) e last =
      let h = header_of t in
      let f = placing_move t h key from to e in
      let v = moving key from to f in
      let w = hide h (token_of t from.bucket) from.slot in
      cuts_append (Either m n) t (move_stores t h from to) (put_stores h w from key r)
      (cuts_weaken (λ (u : Table). Mends u m) (Either m n) (λ u k. inl k) t (move_stores t h from to) (moving_cuts key from to f))
      (put_cuts (made t (move_stores t h from to)) m v.whole from (rw v.header (among_used h key from f.slot f.among)) v.free h w key r
      (Either m n) (λ u s. inl (as_sound s))
      (inr (as_sound (rw (made_append t (move_stores t h from to) (put_stores h w from key r)) at last))))
  placing_cuts key r n Nowhere e last = inl (as_sound whole)

  -- a step: one move, or two
  module _ (x : Slot) (item : InterimItem t x) where
    step_cuts : (p : Placing) → somewhere p ≡ true → placing t (header_of t) (key_in t x) ≡ p
        → EveryCut (λ (u : Table). Mends u m) t (step_stores t (header_of t) x p)
    unfolding step_stores placing_stores move_stores
    step_cuts (Free y) o e =
        let f = placing-free t (header_of t) (key_in t x) y e in
        let used = among_used (header_of t) (key_in t x) y f.slot f.among in
        move_cuts t m whole x y item.item used f.free f.among (elsewhere t m whole x item y used f.level)
    step_cuts (Move from to) o e =
        let h = header_of t in
        let f = placing_move t h (key_in t x) from to e in
        let g = f.goal in
        let used = among_used h (key_in t x) from f.slot f.among in
        let v = moving (key_in t x) from to f in
        let far = elsewhere t m whole x item from used f.level in
        let k = v.stays x item.item (λ q. not_interim from f.level (rw q at item.level)) in
        let puts = put_stores h (hide h (token_of t from.bucket) from.slot) from (key_in t x) (record_in t x) in
        let clears = clear_stores h (token_of t x.bucket) x in
        let second = move_cuts (made t (move_stores t h from to)) m v.whole x from k.0 (rw v.header used) v.free
        (rw (v.header, k.1) f.among) far in
        let again : EveryCut (λ (u : Table). Mends u m) (made t (move_stores t h from to)) (puts ++ clears)
        = rw (
          v.header,
          v.token,
          k.1,
          k.2,
          v.tokens x.bucket far (elsewhere t m whole x item to (among_used h (key_in t from) to g.slot g.among) g.level),
        ) at second in
        rw (append_assoc (move_stores t h from to) puts clears)
        (cuts_append (λ (u : Table). Mends u m) t (move_stores t h from to) (puts ++ clears) (moving_cuts (key_in t x) from to f) again)
    step_cuts Nowhere o e = never o refl

-- ---- an accepted call, made whole

given-whole : (t : Table) (o : Outcome) (m : PlainMap) (s : State) (xs : List Store) → o ≡ listed xs → Gives t o m s → SoundMap (made t xs) m
given-whole t o m s xs e g =
    let same : xs ≡ g.stores = listed-one (sym g.answer ∙ e) in
    rw same (record { sound = g.sound; map = g.map })

module _ (t : Table) (m : PlainMap) (n : ℕ) (given : Given t m n) where
  insert-whole : (key : ℕ) (r : Record) (xs : List Store) → outcome t n (insert key r) ≡ listed xs → SoundMap (made t xs) (map_with m key (some r))
  insert-whole key r xs e = go (m key) (insert_answers t m n given key r)
    where
      go : (v : Option Record) → InsertBy t m key r v (outcome t n (insert key r)) → SoundMap (made t xs) (map_with m key (some r))
      go (some v) k = never-listed (sym k ∙ e)
      go none (inl k) = never-listed (sym k.1 ∙ e)
      go none (inr k) = given-whole t _ _ _ xs e k.1

  -- update and delete
  changed_whole : (q : Call) (k : PlainMap) (v : Option Record) (xs : List Store) → outcome t n q ≡ listed xs → ChangeBy t k v (outcome t n q)
      → SoundMap (made t xs) k
  changed_whole q k (some v) xs e c = given-whole t _ _ _ xs e c
  changed_whole q k none xs e c = never-listed (sym c ∙ e)

  begin-whole : (xs : List Store) → outcome t n begin ≡ listed xs → SoundMap (made t xs) m
  begin-whole xs e = go (ℕ_discrete (header_of t).state.phase 0) (ℕ_discrete (header_of t).state.k (header_of t).c)
    where
      go : Dec (AtRest t) → Dec ((header_of t).state.k ≡ (header_of t).c) → SoundMap (made t xs) m
      go (no resizing) d = never-listed (sym ((begin_answers t m n given).0 resizing) ∙ e)
      go (yes rest) (yes full) = never-listed (sym ((begin_answers t m n given).1 rest full) ∙ e)
      go (yes rest) (no below) = given-whole t _ _ _ xs e ((begin_answers t m n given).2 rest below)

  shrink-whole : (xs : List Store) → outcome t n shrink ≡ listed xs → SoundMap (made t xs) m
  shrink-whole xs e = go (ℕ_discrete (header_of t).state.phase 0) (dec_le 2 (header_of t).state.k)
    where
      go : Dec (AtRest t) → Dec (2 ≤ (header_of t).state.k) → SoundMap (made t xs) m
      go (no resizing) d = never-listed (sym ((shrink_answers t m n given).0 resizing) ∙ e)
      go (yes rest) (no small) = never-listed (sym ((shrink_answers t m n given).1 rest (omega arith)) ∙ e)
      go (yes rest) (yes low) = given-whole t _ _ _ xs e ((shrink_answers t m n given).2 rest low)

  -- turned by the phase, in one store
  back_whole : (xs : List Store) → outcome t n back ≡ listed xs → SoundMap (made t xs) m × ((s : Store) × (xs ≡ s ∷ []))
  back_whole xs e = go (stores_as_written t n back xs e)
    where
      go : Written t (header_of t) back xs → SoundMap (made t xs) m × ((s : Store) × (xs ≡ s ∷ []))
      go (inl (p, w)) = (given-whole t _ _ _ xs e ((back_answers t m n given).1 p), (_, w))
      go (inr (p, w)) = (given-whole t _ _ _ xs e ((back_answers t m n given).2 p), (_, w))

  step-whole : (b : ℕ) (xs : List Store) → outcome t n (step_from b) ≡ listed xs → SoundMap (made t xs) m
  step-whole b xs e = go (ℕ_discrete (header_of t).state.phase 0)
    where
      grown : (None (InterimFrom t b) × (outcome t n (step_from b) ≡ refused InterimEmpty))
          ⊎ ((NoneHasPlace t (InterimFrom t b) × (outcome t n (step_from b) ≡ refused NoPlace))
          ⊎ ((x : Slot) × FirstWithPlace t (InterimFrom t b) x × StepBy t m x (outcome t n (step_from b))))
          → SoundMap (made t xs) m
      grown (inl k) = never-listed (sym k.1 ∙ e)
      grown (inr (inl k)) = never-listed (sym k.1 ∙ e)
      grown (inr (inr (x, first, k))) = given-whole t _ _ _ xs e k.0

      go : Dec (AtRest t) → SoundMap (made t xs) m
      go (yes rest) = never-listed (sym ((step_answers t m n given b).0 rest) ∙ e)
      go (no resizing) = grown ((step_answers t m n given b).1 resizing)

  end_whole : (xs : List Store) → outcome t n end ≡ listed xs → SoundMap (made t xs) m
  end_whole xs e = go (ℕ_discrete (header_of t).state.phase 0)
    where
      ended : ((x : Slot) × InterimItem t x × (outcome t n end ≡ refused InterimTaken))
          ⊎ (NoInterim t × Gives t (outcome t n end) m (record { k = (header_of t).state.k; phase = 0 })) → SoundMap (made t xs) m
      ended (inl (x, i, k)) = never-listed (sym k ∙ e)
      ended (inr (empty, g)) = given-whole t _ _ _ xs e g

      go : Dec (AtRest t) → SoundMap (made t xs) m
      go (yes rest) = never-listed (sym ((end_answers t m n given).0 rest) ∙ e)
      go (no resizing) = ended ((end_answers t m n given).1 resizing)

  pub call_whole : (q : Call) (xs : List Store) → outcome t n q ≡ listed xs → SoundMap (made t xs) (map_after q m)
  call_whole (query key) xs e = rw (stores_as_written t n (query key) xs e) (whole_of t m n given)
  call_whole (insert key r) xs e = insert-whole key r xs e
  call_whole (update key r) xs e = changed_whole (update key r) _ (m key) xs e (update_answers t m n given key r)
  call_whole (delete key) xs e = changed_whole (delete key) _ (m key) xs e (delete_answers t m n given key)
  call_whole begin xs e = begin-whole xs e
  call_whole shrink xs e = shrink-whole xs e
  call_whole back xs e = (back_whole xs e).0
  call_whole (step_from b) xs e = step-whole b xs e
  call_whole end xs e = end_whole xs e
  call_whole recover xs e = rw (listed-one (sym (recover_answers t m n given) ∙ e)) (whole_of t m n given)

  -- ---- and cut

  insert_cuts : (key : ℕ) (r : Record) (k : PlainMap) (xs : List Store) → insert_in t (header_of t) (lookup t (header_of t) key) key r ≡ listed xs
      → SoundMap (made t xs) k → EveryCut (Either m k) t xs
  insert_cuts key r k xs e last = known (m key) refl
    where
      by_placing : (p : Placing) → placing t (header_of t) key ≡ p → placed_by p (placing_stores t (header_of t) p key r) ≡ listed xs
          → EveryCut (Either m k) t xs
      by_placing (Free x) q f = let same = listed-one f in rw same (placing_cuts t m (whole_of t m n given) key r k (Free x) q (rw same at last))
      by_placing (Move from to) q f = let same = listed-one f in rw same (placing_cuts t m (whole_of t m n given) key r k (Move from to) q (rw same at last))
      by_placing Nowhere q f = never-listed f

      known : (v : Option Record) → m key ≡ v → EveryCut (Either m k) t xs
      known (some v) q = never-listed (rw (lookup-known t m given.sound given.map key v q).answer at e)
      known none q = by_placing (placing t (header_of t) key) refl (rw (lookup_unknown t m given.sound given.map key q).1 at e)

  update_cuts : (key : ℕ) (r : Record) (xs : List Store) → update_in t (header_of t) (lookup t (header_of t) key) key r ≡ listed xs
      → SoundMap (made t xs) (map_with m key (some r)) → EveryCut (Either m (map_with m key (some r))) t xs
  unfolding update_stores
  update_cuts key r xs e last = known (m key) refl
    where
      after : PlainMap
      after = map_with m key (some r)

      -- the slot with the key, and a free slot of its bucket or none
      there : (x : Slot) → TakenSlot t x → key_in t x ≡ key → (o : Option Slot) → free_slot t (header_of t) (place_of x) ≡ o
          → listed (update_with t (header_of t) x o key r) ≡ listed xs → EveryCut (Either m after) t xs
      there x item same (some y) q f =
          let h = header_of t in
          let free = free-slot t h (place_of x) y q in
          let used = slot_of_place h.state (place_of x) y (place_of_slot h.state x item.used) free.inside in
          let list = listed-one f in
          rw list (put_cuts t m (whole_of t m n given) y used free.free h _ key r (Either m after) (λ u s. inl (as_sound s))
          (inr (as_sound (rw list at last))))
      there x item same none q f =
          rw (listed-one f) (log_cuts t m (whole_of t m n given) x item r (Either m after) (λ u s. inl (as_sound s)) (λ u k. inr (rw same at k)))

      known : (v : Option Record) → m key ≡ v → EveryCut (Either m after) t xs
      known (some v) q =
          let f = lookup-known t m given.sound given.map key v q in
          there f.slot f.item f.holding (free_slot t (header_of t) (place_of f.slot)) refl (rw f.answer at e)
      known none q = never-listed (rw (lookup_unknown t m given.sound given.map key q).1 at e)

  -- delete, begin, shrink, back and end: one store
  one_store : (k : PlainMap) (s : Store) (xs : List Store) → xs ≡ s ∷ [] → SoundMap (made t xs) k → EveryCut (Either m k) t xs
  one_store k s xs e last = rw e (one-cut t m k s (whole_of t m n given) (rw e at last))

  step_safe : (b : ℕ) (xs : List Store) → step_in t (header_of t) (step_item t (header_of t) b) ≡ listed xs → EveryCut (Either m m) t xs
  step_safe b xs e = item (step_item t (header_of t) b) refl e
    where
      item : (o : Option Slot) → step_item t (header_of t) b ≡ o → step_in t (header_of t) o ≡ listed xs → EveryCut (Either m m) t xs
      item none q f = never-listed f
      item (some x) q f =
          let first = step-item t b x q in
          cuts_weaken (λ (u : Table). Mends u m) (Either m m) (λ u k. inl k) t xs
          (rw (listed-one f) (step_cuts t m (whole_of t m n given) x first.item.item _ (placed-somewhere t (header_of t) (key_in t x) first.place) refl))

  pub call_cuts : (q : Call) (xs : List Store) → outcome t n q ≡ listed xs → EveryCut (Either m (map_after q m)) t xs
  unfolding outcome step_of
  call_cuts (query key) xs e = rw (stores_as_written t n (query key) xs e) (inl (as_sound (whole_of t m n given)))
  call_cuts (insert key r) xs e = insert_cuts key r _ xs (rw (passes t m n given) at e) (insert-whole key r xs e)
  call_cuts (update key r) xs e = update_cuts key r xs (rw (passes t m n given) at e) (call_whole (update key r) xs e)
  call_cuts (delete key) xs e = let w = stores_as_written t n (delete key) xs e in one_store _ _ xs w.2 (call_whole (delete key) xs e)
  call_cuts begin xs e = one_store m _ xs (stores_as_written t n begin xs e) (begin-whole xs e)
  call_cuts shrink xs e = one_store m _ xs (stores_as_written t n shrink xs e) (shrink-whole xs e)
  call_cuts back xs e = let w = back_whole xs e in one_store m _ xs w.1.1 w.0
  call_cuts (step_from b) xs e = step_safe b xs (checked-listed _ xs (step_tests t (header_of t) b) (rw (passes t m n given) at e))
  call_cuts end xs e = one_store m _ xs (stores_as_written t n end xs e) (end_whole xs e)
  call_cuts recover xs e = rw (listed-one (sym (recover_answers t m n given) ∙ e)) (inl (as_sound (whole_of t m n given)))
