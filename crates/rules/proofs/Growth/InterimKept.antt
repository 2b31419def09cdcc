-- What the calls do to the token words of the interim level while growing, on every table that they accept: a placing leaves them, an
-- update sets one bit where it clears one, a delete and a recovery clear at most one, and a step clears one.
-- Assumes nothing.
use Prim.Native.Nat.{ℕ, ◌+◌, ◌*◌, ◌≤◌}
use mathlib.Core.Path.{◌≡◌, refl, ap, ◌∙◌}
use mathlib.Core.List.{◌++◌}
use mathlib.Core.Logic.{inl, inr}
use mathlib.Core.Option.{Option, none, some}
use native.Mathlib.Omega.{arith}
use native.Mathlib.Decide.{ℕ_discrete}
use lib.ListN.{length}
use Rattle.rules.specs.Words.{Table, GoodHeader, header_of, flag_of, interim_of, InLevel, InUse, place_of}
use Rattle.rules.specs.Words.{token_word, key_word, function_word, place_word, key_in, record_in, token_of, hide, taken_of, taken}
use Rattle.rules.specs.Placing.{free_slot, placing}
use Rattle.rules.specs.Stores.{put_stores, clear_stores, move_stores, placing_stores, redo_stores, update_with, step_stores, made}
use Rattle.rules.specs.Soundness.{TakenSlot}
use Rattle.rules.specs.Demands.{Resizing, InterimItem}
use Rattle.rules.specs.declared.Level.{Level}
use Rattle.rules.specs.declared.Slot.{Slot}
use Rattle.rules.specs.declared.Record.{Record}
use Rattle.rules.specs.declared.Placing.{Placing}
use Rattle.rules.specs.declared.Placing.TheVariants.{Free, Move, Nowhere}
use Rattle.rules.proofs.Words.Levels.{interim-used, level_of_bucket}
use Rattle.rules.proofs.Places.PlacesInUse.{among_used, slot-within, place_of_slot, slot_of_place}
use Rattle.rules.proofs.Places.Placings.{placing-free, placing_move}
use Rattle.rules.proofs.Words.FreeSlots.{free-slot}
use Rattle.rules.proofs.Words.Made.{made_append, made_kept}
use Rattle.rules.proofs.Carrying.Touched.{Touched, touched}
use Rattle.rules.proofs.Carrying.StoreKinds.{SlotWritten, put_written, clear_written, log_written}
use Rattle.rules.proofs.Carrying.Putting.{place-bucket}
use Rattle.rules.proofs.Calls.StateChanges.{resizing-interim}
use Rattle.rules.proofs.Tables.Interims.{item_range}
use Rattle.rules.proofs.Calls.GrowthSteps.{Settled, not_interim}
use Rattle.rules.proofs.Growth.InterimBits.{hide-fewer, hide_less, beside_fewer}

-- the interim level's token words stay
pub record Keeps (t u : Table) : Type 0 where
  pub long : length u ≡ length t
  pub header : header_of u ≡ header_of t
  pub tokens : (j : ℕ) → InLevel (interim_of (header_of t).state) j → token_of u j ≡ token_of t j

-- none of them has more slots taken
pub record Drains (t u : Table) : Type 0 where
  pub header : header_of u ≡ header_of t
  pub bits : (j : ℕ) → InLevel (interim_of (header_of t).state) j → taken_of (header_of t) (token_of u j) ≤ taken_of (header_of t) (token_of t j)

-- and that of slot x's bucket has fewer
pub record Steps (t u : Table) (x : Slot) : Type 0 where
  pub drains : Drains t u
  pub range : InLevel (interim_of (header_of t).state) x.bucket
  pub less : taken_of (header_of t) (token_of u x.bucket) + 1 ≤ taken_of (header_of t) (token_of t x.bucket)

pub keeps_drains : (t u : Table) → Keeps t u → Drains t u
keeps_drains t u k = record { header = k.header; bits = λ j r. rw (k.tokens j r) (omega arith) }

keeps-twice : (t u v : Table) → Keeps t u → Keeps u v → Keeps t v
keeps-twice t u v a b = record {
  long = b.long ∙ a.long;
  header = b.header ∙ a.header;
  tokens = λ j r. b.tokens j (rw a.header r) ∙ a.tokens j r;
}

drains_twice : (t u v : Table) → Drains t u → Drains u v → Drains t v
drains_twice t u v a b = record {
  header = b.header ∙ a.header;
  bits = λ j r. omega (arith, a.bits j r, (rw a.header at (b.bits j (rw a.header r))));
}

-- one slot is written
module _ (t u : Table) (x : Slot) (v k : ℕ) (r : Record) (written : SlotWritten t u x v k r) where
  written_keeps : (InLevel (interim_of (header_of t).state) x.bucket → ⊥) → Keeps t u
  written_keeps far = record {
    long = written.near.long;
    header = written.near.header;
    tokens =
        λ j range. written.near.tokens j (λ e. far (rw e at range));
  }

  written_drains : taken_of (header_of t) v ≤ taken_of (header_of t) (token_of t x.bucket) → Drains t u
  written_drains few = record { header = written.near.header; bits = λ j range. go j (ℕ_discrete j x.bucket) }
    where
      go : (j : ℕ) → Dec (j ≡ x.bucket) → taken_of (header_of t) (token_of u j) ≤ taken_of (header_of t) (token_of t j)
      go j (yes e) = rw (e, written.token) few
      go j (no n) = rw (written.near.tokens j n) (omega arith)

module _ (t : Table) (good : GoodHeader (length t) (header_of t)) (resizing : Resizing t) where
  -- top and bottom are elsewhere
  settled_apart : (x : Slot) → InUse (header_of t).state x → Settled x → InLevel (interim_of (header_of t).state) x.bucket → ⊥
  unfolding interim_of
  settled_apart x used settled range =
      let s = (header_of t).state in
      let there = interim-used s (resizing-interim t resizing) in
      let same = level_of_bucket (header_of t).c s good.state used.level (interim_of s) x.bucket used.used there used.bucket range in
      not_interim x settled (used.name ∙ ap (λ (l : Level). l.name) same)

  within : (x : Slot) → InUse (header_of t).state x → 9 + 13 * x.bucket + 13 ≤ length t
  within x used = (slot-within (length t) (header_of t) good x used).0

  -- a placing writes to top and bottom alone
  pub placing-keeps : (key : ℕ) (r : Record) (p : Placing) → placing t (header_of t) key ≡ p → Keeps t (made t (placing_stores t (header_of t) p key r))
  unfolding placing_stores move_stores
  placing-keeps key r (Free x) e =
      let f = placing-free t (header_of t) key x e in
      let used = among_used (header_of t) key x f.slot f.among in
      written_keeps t _ x _ _ _ (put_written t x f.slot (within x used) (header_of t) (token_of t x.bucket) key r) (settled_apart x used f.level)
  placing-keeps key r (Move from to) e =
      let h = header_of t in
      let f = placing_move t h key from to e in
      let g = f.goal in
      let used = among_used h key from f.slot f.among in
      let target = among_used h (key_in t from) to g.slot g.among in
      let puts = put_stores h (token_of t to.bucket) to (key_in t from) (record_in t from) in
      let clears = clear_stores h (token_of t from.bucket) from in
      let last = put_stores h (hide h (token_of t from.bucket) from.slot) from key r in
      let a = written_keeps t (made t puts) to _ _ _ (put_written t to g.slot (within to target) h _ _ _) (settled_apart to target g.level) in
      let far : (u : Table) → Keeps t u → InLevel (interim_of (header_of u).state) from.bucket → ⊥ =
      λ u k range. settled_apart from used f.level (rw k.header at range) in
      let b = written_keeps (made t puts) (made (made t puts) clears) from _ _ _
      (clear_written (made t puts) from f.slot (rw a.long (within from used)) h _) (far (made t puts) a) in
      let c = keeps-twice t (made t puts) (made (made t puts) clears) a b in
      let d = written_keeps (made (made t puts) clears) (made (made (made t puts) clears) last) from _ _ _
      (put_written (made (made t puts) clears) from f.slot (rw c.long (within from used)) h _ _ _) (far _ c) in
      let whole : made t ((puts ++ clears) ++ last) ≡ made (made (made t puts) clears) last =
      made_append t (puts ++ clears) last ∙ rw (made_append t puts clears) in
      rw whole (keeps-twice t (made (made t puts) clears) _ c d)
  placing-keeps key r Nowhere e = record { long = refl; header = refl; tokens = λ j range. refl }

  -- delete, and recovery of a doubled key
  pub clear_drains : (x : Slot) → InUse (header_of t).state x → Drains t (made t (clear_stores (header_of t) (token_of t x.bucket) x))
  clear_drains x used = written_drains t _ x _ _ _ (clear_written t x used.slot (within x used) (header_of t) (token_of t x.bucket))
      (hide-fewer (header_of t) (token_of t x.bucket) x.slot used.slot)

  -- update: the bucket has as many taken slots as before
  pub update_drains : flag_of t ≡ 0 → (x : Slot) → TakenSlot t x → (key : ℕ) (r : Record) (o : Option Slot)
      → free_slot t (header_of t) (place_of x) ≡ o
      → Drains t (made t (update_with t (header_of t) x o key r))
  unfolding taken
  update_drains flag x item key r (some y) e =
      let h = header_of t in
      let f = free-slot t h (place_of x) y e in
      let used = slot_of_place h.state (place_of x) y (place_of_slot h.state x item.used) f.inside in
      let same : y.bucket ≡ x.bucket = place-bucket y x f.place in
      written_drains t _ y _ _ _ (put_written t y used.slot (within y used) h _ key r)
      (rw same (beside_fewer h (token_of t x.bucket) x.slot item.used.slot item.shown y.slot key used.slot))
  update_drains flag x item key r none e = written_drains t _ x _ _ _ (log_written t x item.used.slot (within x item.used) r flag) (omega arith)

  -- recovery of a flagged table: no token
  pub redo_drains : (x : Slot) → InUse (header_of t).state x → (r : Record) → Drains t (made t (redo_stores x r))
  unfolding redo_stores token_of token_word key_word function_word place_word
  redo_drains x used r =
      let xs = redo_stores x r in
      let near = touched x used.slot t xs (inr (inr (omega arith)), (inr (inr (omega arith)), (inl (omega arith), tt))) in
      let token : token_of (made t xs) x.bucket ≡ token_of t x.bucket =
      made_kept t xs (token_word x.bucket) (omega arith, (omega arith, (omega arith, tt))) in
      record { header = near.header; bits = λ j range. go near token j (ℕ_discrete j x.bucket) }
    where
      go : Touched t (made t (redo_stores x r)) x → token_of (made t (redo_stores x r)) x.bucket ≡ token_of t x.bucket
          → (j : ℕ) → Dec (j ≡ x.bucket)
          → taken_of (header_of t) (token_of (made t (redo_stores x r)) j) ≤ taken_of (header_of t) (token_of t j)
      go near token j (yes e) = rw (e, token) (omega arith)
      go near token j (no n) = rw (near.tokens j n) (omega arith)

  -- a step: its placing, then the item's token cleared
  pub step_less : (x : Slot) → InterimItem t x → (p : Placing) → placing t (header_of t) (key_in t x) ≡ p
      → Steps t (made t (step_stores t (header_of t) x p)) x
  unfolding step_stores taken
  step_less x item p e =
      let h = header_of t in
      let used = item.item.used in
      let puts = placing_stores t h p (key_in t x) (record_in t x) in
      let k = placing-keeps (key_in t x) (record_in t x) p e in
      let range = item_range t x item in
      let token = k.tokens x.bucket range in
      let clear = clear_written (made t puts) x used.slot (rw k.long (within x used)) h (token_of t x.bucket) in
      let whole = made_append t puts (clear_stores h (token_of t x.bucket) x) in
      let fewer : taken_of h (hide h (token_of t x.bucket) x.slot) ≤ taken_of h (token_of t x.bucket) =
      hide-fewer h (token_of t x.bucket) x.slot used.slot in
      let second = written_drains (made t puts) _ x _ _ _ clear (rw (k.header, token) fewer) in
      rw whole (record {
        drains = drains_twice t (made t puts) _ (keeps_drains t (made t puts) k) second;
        range = range;
        less = rw clear.token (hide_less h (token_of t x.bucket) x.slot used.slot item.item.shown);
      })
