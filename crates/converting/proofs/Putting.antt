-- A fresh second table, and one item in it: in a free slot, in one that another item leaves, or in none.
-- Assumes nothing.
use Prim.Native.Nat.{ℕ, ◌≤◌}
use mathlib.Core.Path.{◌≡◌, refl, sym, ap, ◌∙◌}
use mathlib.Core.List.{List, [], ◌∷◌}
use types.Run.{OneOf}
use denote.Enum.Declared.{tag_of}
use mathlib.Core.Bool.{true}
use borrow.Author.Tests.{eqb-true}
use native.Mathlib.Omega.{arith}
use lib.ListN.{length, take}
use lib.Seq.{take_all}
use Rattle.rules.specs.Forms.{tag_of as tag_for}
use Rattle.rules.specs.Places.{hashes_of}
use Rattle.rules.specs.declared.Hashes.{Hashes}
use Rattle.rules.specs.Words.{Table, GoodHeader, at_rest, token_of}
use Rattle.rules.specs.Placing.{placing}
use Rattle.rules.specs.Stores.{put_stores, placing_stores, made}
use Rattle.rules.specs.Calls.{listed, placed_by, insert_in, insert, outcome}
use Rattle.rules.specs.Results.{change_result, create_result, make_result}
use Rattle.rules.specs.Conversions.{other_form, fresh_for, inserted_in}
use Rattle.rules.specs.declared.Header.{Header}
use Rattle.rules.specs.declared.Slot.{Slot}
use Rattle.rules.specs.declared.Record.{Record}
use Rattle.rules.specs.declared.Placing.{Placing}
use Rattle.rules.specs.declared.Placing.TheVariants.{Free}
use Rattle.rules.specs.declared.Lookup.TheVariants.{Absent}
use Rattle.rules.specs.Answers.{Change}
use Rattle.std.specs.Prelude.{Ok, Err}
use Rattle.rules.specs.Answers.{Verdict}
use Rattle.rules.specs.contracts.Placing.{the_type as placing-type}
use Rattle.rules.proofs.Words.Made.{made-long}
use Rattle.rules.proofs.Calls.MadeLists.{make_takes_the_list}
use Rattle.rules.proofs.Calls.Conversions.{created-fresh}
use Rattle.listing.specs.Listing.{Run, Takes}
use Rattle.listing.specs.Promises.{Did}
use Rattle.listing.proofs.Placings.{placed_nowhere, placed-listed}
use Rattle.listing.proofs.Outcomes.{did_list, did_as}
use Rattle.making.specs.Promises.{Created, Made}
use Rattle.converting.specs.Fillings.{Unsought, PutIn}

module _ (u : Table) (to : Header) (key : ℕ) (r : Record) (w : Unsought u to key r) (l : List ℕ) (long : length l ≡ 20) where
  module _ (x : Change) (m : List ℕ) (d : Did (insert_in u to (Absent 0) key r) l x m) where
    told : (x ≡ (change_result u l (insert key r)).0) × (m ≡ (change_result u l (insert key r)).1)
    unfolding change_result
    told = rw (long, w.absent) (d.answer, d.list)

    -- the list holds the stores, and they are made
    put-somewhere : (n : ℕ) → x ≡ Ok n → (y : Verdict) (v : Table) (k : List ℕ) → Made u m n y v k → PutIn u key r (Ok tt) v
    unfolding Made
    put-somewhere n e y v k made_by =
        let taken = make_takes_the_list u l (insert key r) n (sym told.0 ∙ e) n (omega arith) in
        let stores = taken.0 in
        let all : take n stores ≡ stores = take_all n stores (omega (arith, taken.2)) in
        let result : v ≡ made u stores = made_by.0.table ∙ ap (λ (z : List ℕ). (make_result u z n).1) told.1
        ∙ ap (λ (z : Verdict × Table). z.1) taken.3 ∙ ap (made u) all in
        let lists : outcome u 20 (insert key r) ≡ listed stores = rw long at taken.1 in
        record { filling = rw (lists, result) refl; long = rw result (made-long u stores) }

-- the tag beside a key's hashes
pub tag_hashed : (h : Header) (key : ℕ) (x : Hashes) → x ≡ hashes_of h key → x.tag ≡ tag_for h key
unfolding hashes_of
tag_hashed h key x e = ap (λ (z : Hashes). z.tag) e

-- an item's place: what its insert comes to
module _ (u : Table) (to : Header) (key : ℕ) (r : Record) (w : Unsought u to key r) (p : Placing) (same : p ≡ placing u to key) where
  placed : outcome u 20 (insert key r) ≡ placed_by p (placing_stores u to p key r)
  placed = w.absent ∙ ap (λ (q : Placing). placed_by q (placing_stores u to q key r)) (sym same)

  -- no place
  pub put_nowhere : OneOf (2 ∷ []) (tag_of placing-type p) → PutIn u key r (Err key) u
  put_nowhere k = record { filling = ap (inserted_in u key) (placed_nowhere p (placing_stores u to p key r) k ∙ sym placed); long = refl }

  -- a free slot
  pub put_in_slot : (y : Slot) → p ≡ Free y → (v : Table) → v ≡ made u (put_stores to (token_of u y.bucket) y key r) → PutIn u key r (Ok tt) v
  unfolding placing_stores
  put_in_slot y e v f =
      let lists : outcome u 20 (insert key r) ≡ listed (put_stores to (token_of u y.bucket) y key r) =
      placed ∙ ap (λ (q : Placing). placed_by q (placing_stores u to q key r)) e in
      record { filling = rw (lists, f) refl; long = rw f (made-long u (put_stores to (token_of u y.bucket) y key r)) }

  -- a slot that another item leaves: the stores are listed and made
  module _ (y : Slot) (k : Takes u p y) (l : List ℕ) (long : length l ≡ 20) (n : ℕ) (m : List ℕ) (run : Run n l m (placing_stores u to p key r)) (few : n ≤ 9)
    where
      listed-pairs : Did (insert_in u to (Absent 0) key r) l (Ok n) m
      listed-pairs =
          did_as (placed-listed u p y (placing_stores u to p key r) k ∙ sym placed ∙ w.absent) (did_list run (omega (arith, run.0, few, long)))

      pub put_moving : (x : Verdict) (v : Table) (o : List ℕ) → Made u m n x v o → PutIn u key r (Ok tt) v
      put_moving x v o made_by = put-somewhere u to key r w l long (Ok n) m listed-pairs n refl x v o made_by

-- "create the other form there": the form is what was computed
pub fresh-made : (s : Table) (h : Header) → GoodHeader (length s) h → at_rest h.state ≡ true → (form : ℕ) → form ≡ other_form h.form
    → (r : Verdict) (v : Table) → Created s form h.c h.state.k h.mul1 h.mul2 r v → v ≡ fresh_for h
unfolding Created at_rest
fresh-made s h good rest form e r v made_by =
    made_by.table ∙ ap (λ (f : ℕ). (create_result s f h.c h.state.k h.mul1 h.mul2).1) e
    ∙ ap (λ (z : Verdict × Table). z.1) (created-fresh (length s) h good (eqb-true _ _ rest) s refl)
