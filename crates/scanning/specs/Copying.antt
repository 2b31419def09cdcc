-- What a recovery that is linear in the table asks: of each taken slot, where the lookup of its key ends. Where that is another
-- slot, the two are copies. `proofs/Copying` shows that it finds what `Soundness` says.
-- Assumes nothing.
use Rattle.std.specs.Prelude.{Bool, cond, ◌&&◌, ◌||◌, List, [], ◌∷◌, ltb, eqb}
use Rattle.rules.specs.Words.{Table, key_in}
use Rattle.rules.specs.Places.{lookup}
use Rattle.rules.specs.declared.Header.{Header}
use Rattle.rules.specs.declared.Slot.{Slot}
use Rattle.rules.specs.declared.Lookup.{Lookup}
use Rattle.rules.specs.declared.Lookup.TheVariants.{Stands, Absent}

-- "by top, bottom, interim, then bucket and slot ascending", as a test
unfoldable pub is_before : Slot → Slot → Bool
is_before x y = ltb x.level
    y.level || (eqb x.level y.level && (ltb x.bucket y.bucket || (eqb x.bucket y.bucket && ltb x.slot y.slot)))

-- two slots in that order
unfoldable pub in_order : Slot → Slot → Slot × Slot
in_order x y = cond (is_before x y) (x, y) (y, x)

-- whether two slots are one; a bucket belongs to one level alone
unfoldable pub same_slot : Slot → Slot → Bool
same_slot x y = eqb x.bucket y.bucket && eqb x.slot y.slot

-- slot x, and where the lookup of its key ends
abbrev pub copy_at : Slot → Lookup → List (Slot × Slot)
copy_at x (Stands y n) = cond (same_slot x y) [] (in_order x y ∷ [])
copy_at x (Absent n) = []

unfoldable pub copies_of : Table → Header → Slot → List (Slot × Slot)
copies_of t h x = copy_at x (lookup t h (key_in t x))
