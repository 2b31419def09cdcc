-- A course takes the parts of an input as the whole of it: the law that `taking::read_all` asks of what takes parts.
-- Assumes nothing.
use Rattle.std.specs.Prelude.{ℕ, ◌≡◌, Bool, true, false, cond, List, [], ◌∷◌, ◌++◌, refl}
use mathlib.Core.Path.{sym, ap, ◌∙◌}
use Rattle.running.specs.Inputs.{Standing, Takes}
use Rattle.convert.specs.declared.Course.{Course}
use Rattle.convert.specs.Parts.{after_byte, is_known, after_bytes, PartsAreTaken}

pub after_none : (x : Standing Course) → after_bytes x [] ≡ x
unfolding after_bytes
after_none x = refl

-- nothing more is taken
pub after-known : (x : Standing Course) (bs : List ℕ) → is_known x ≡ true → after_bytes x bs ≡ x
unfolding after_bytes
after-known x [] k = refl
after-known x (b ∷ bs) k = ap (λ (c : Bool). cond c x (after_bytes (after_byte x b) bs)) k

pub after_next : (x : Standing Course) (b : ℕ) (bs : List ℕ) → is_known x ≡ false → after_bytes x (b ∷ bs) ≡ after_bytes (after_byte x b) bs
unfolding after_bytes
after_next x b bs k = ap (λ (c : Bool). cond c x (after_bytes (after_byte x b) bs)) k

pub taken_on : PartsAreTaken
taken_on x [] later = ap (λ (y : Standing Course). after_bytes y later) (sym (after_none x))
taken_on x (b ∷ bs) later = go (is_known x) refl (taken_on (after_byte x b) bs later)
  where
    go : (k : Bool) → is_known x ≡ k → after_bytes (after_byte x b) (bs ++ later) ≡ after_bytes (after_bytes (after_byte x b) bs) later
        → after_bytes x ((b ∷ bs) ++ later) ≡ after_bytes (after_bytes x (b ∷ bs)) later
    go true k more =
        after-known x ((b ∷ bs) ++ later) k ∙ sym (after-known x later k) ∙ ap (λ (y : Standing Course). after_bytes y later) (sym (after-known x (b ∷ bs) k))
    go false k more = after_next x b (bs ++ later) k ∙ more ∙ ap (λ (y : Standing Course). after_bytes y later) (sym (after_next x b bs k))

pub takes : Takes after_bytes
takes = record { none = after_none; more = taken_on }
