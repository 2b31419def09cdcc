-- A good header, by the words themselves: words 0 to 4 and the table's length say what the decoded header says.
-- Assumes nothing.
use Prim.Native.Nat.{ℕ, ◌≤◌}
use mathlib.Core.Logic.{inl, inr, ◌↔◌}
use native.Mathlib.Omega.{arith}
use lib.ListN.{length}
use Rattle.rules.specs.Words.{Table, word, words_for, state_of, GoodState, header_of, GoodHeader}
use Rattle.rules.specs.Demands.{GoodStateWord, HeaderWords}

-- "state: k + 256·phase"
module _ (c w : ℕ) (small : c ≤ 20) where
  state-words : GoodState c (state_of w) → GoodStateWord c w
  unfolding state_of
  state-words (inl (p, l, m)) = inl (omega arith)
  state-words (inr (inl (p, l, m))) = inr (inl (omega arith))
  state-words (inr (inr (p, l, m))) = inr (inr (omega arith))

  words-state : GoodStateWord c w → GoodState c (state_of w)
  unfolding state_of
  words-state (inl r) = inl (omega arith, omega arith, omega arith)
  words-state (inr (inl r)) = inr (inl (omega arith, omega arith, omega arith))
  words-state (inr (inr r)) = inr (inr (omega arith, omega arith, omega arith))

pub header-words : (t : Table) → GoodHeader (length t) (header_of t) ↔ HeaderWords t
unfolding header_of words_for
header-words t = (
  λ g. record {
    capacity = g.capacity;
    long = g.long;
    form = g.form;
    odd1 = g.odd1;
    odd2 = g.odd2;
    state = state-words (word t 1) (word t 4) g.capacity.1 g.state;
  },
  λ h. record {
    capacity = h.capacity;
    long = h.long;
    form = h.form;
    odd1 = h.odd1;
    odd2 = h.odd2;
    state = words-state (word t 1) (word t 4) h.capacity.1 h.state;
  },
)
