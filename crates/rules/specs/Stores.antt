-- Document 01, "Store lists": the stores of each change, in order, as pairs of a word index and a new word; the lent
-- list that they are written to; and the table in which they are made.
-- "All stores are listed, also where the word already holds that number."
-- Assumes nothing.
use Rattle.std.specs.Prelude.{ℕ, zero, suc, ◌+◌, ◌-◌, ◌*◌, cond, List, [], ◌∷◌, ◌++◌, length, drop, set}
use Rattle.std.proofs.Math.Option.{Option, none, some}
use Rattle.rules.specs.Words.{Table, state_word, shrinking, word_of_state, word_of_flag, word_of_target, word_of_function, word_of_place, place_of, key_word}
use Rattle.rules.specs.Words.{function_word, place_word, key_in, record_in, token_word, token_of, show, hide}
use Rattle.rules.specs.Placing.{free_slot}
use Rattle.rules.specs.declared.State.{State}
use Rattle.rules.specs.declared.Header.{Header}
use Rattle.rules.specs.declared.Slot.{Slot}
use Rattle.rules.specs.declared.Record.{Record}
use Rattle.rules.specs.declared.Placing.{Placing}
use Rattle.rules.specs.declared.Placing.TheVariants.{Free, Move, Nowhere}

-- "pairs: word index, new word"
abbrev pub Store : Type 0
Store = ℕ × ℕ

-- "insert, free slot | key, function, place, token", where the bucket's token word is w
unfoldable pub put_stores : Header → ℕ → Slot → ℕ → Record → List Store
put_stores h w x key r =
    (key_word x, key) ∷ (function_word x, r.function) ∷ (place_word x, r.place)
    ∷ (token_word x.bucket, show h w x.slot key) ∷ []

-- "delete | token cleared", where the bucket's token word is w
unfoldable pub clear_stores : Header → ℕ → Slot → List Store
clear_stores h w x = (token_word x.bucket, hide h w x.slot) ∷ []

-- a move: "the item's three words and token at its new slot; old token cleared"
unfoldable pub move_stores : Table → Header → Slot → Slot → List Store
move_stores t h from to = put_stores h (token_of t to.bucket) to (key_in t from) (record_in t from) ++ clear_stores h (token_of t from.bucket) from

-- a placing of a key and its record. "insert with move | the item's three words and token at its new slot; old token
-- cleared; new item's three words; token": a move, then a put in the slot that it freed
unfoldable pub placing_stores : Table → Header → Placing → ℕ → Record → List Store
placing_stores t h (Free x) key r = put_stores h (token_of t x.bucket) x key r
placing_stores t h (Move from to) key r = move_stores t h from to ++ put_stores h (hide h (token_of t from.bucket) from.slot) from key r
placing_stores t h Nowhere key r = []

-- "function, place in the slot; flag 0"; as recovery has it, "function and place from words 7 and 8, then flag 0"
unfoldable pub redo_stores : Slot → Record → List Store
redo_stores x r = (function_word x, r.function) ∷ (place_word x, r.place) ∷ (word_of_flag, 0) ∷ []

-- "words 6, 7, 8; flag 1". "Word 6 holds the index of the slot's key word."
abbrev pub log_stores : Slot → Record → List Store
log_stores x r = (word_of_target, key_word x) ∷ (word_of_function, r.function) ∷ (word_of_place, r.place) ∷ (word_of_flag, 1) ∷ []

-- "update, bucket has a free slot | three words to its lowest free slot; one token store that sets it and clears the old"
-- "update, bucket full | words 6, 7, 8; flag 1; function, place in the slot; flag 0"
abbrev pub update_with : Table → Header → Slot → Option Slot → ℕ → Record → List Store
update_with t h x (some free) key r = put_stores h (hide h (token_of t x.bucket) x.slot) free key r
update_with t h x none key r = log_stores x r ++ redo_stores x r

unfoldable pub update_stores : Table → Header → Slot → ℕ → Record → List Store
update_stores t h x key r = update_with t h x (free_slot t h (place_of x)) key r

-- "begin growth | state: k + 1, phase 1", "end growth | state: phase 0"
abbrev pub begun_of : State → State
begun_of s = record { k = s.k + 1; phase = 1 }

abbrev pub ended_of : State → State
ended_of s = record { k = s.k; phase = 0 }

-- document 02, request f): "the state goes from rest with k to phase 2 with k − 1, in one store"
abbrev pub shrunk_of : State → State
shrunk_of s = record { k = s.k - 1; phase = 2 }

-- request f): "A shrinking table becomes a growing one with k + 1, and a growing one a shrinking one with k − 1, by one state store."
unfoldable pub turned_of : State → State
turned_of s = cond (shrinking s) (begun_of s) (shrunk_of s)

-- a new state: one store
unfoldable pub state_stores : State → List Store
state_stores s = (word_of_state, state_word s) ∷ []

-- "growth step | placing of the first taken interim slot .., then its interim token cleared", for slot x; which one that is, request b)
-- says (`step_item` of `Calls`)
unfoldable pub step_stores : Table → Header → Slot → Placing → List Store
step_stores t h x p = placing_stores t h p (key_in t x) (record_in t x) ++ clear_stores h (token_of t x.bucket) x

-- the stores as words, and written to the front of a lent list, whose rest stays
abbrev pub flat : List Store → List ℕ
flat [] = []
flat (x ∷ xs) = x.0 ∷ x.1 ∷ flat xs

unfoldable pub written : List Store → List ℕ → List ℕ
written xs l = flat xs ++ drop (2 * length xs) l

-- the first n pairs of a list
abbrev pub pairs : ℕ → List ℕ → List Store
pairs zero l = []
pairs (suc n) [] = []
pairs (suc n) (i ∷ []) = []
pairs (suc n) (i ∷ (w ∷ l)) = (i, w) ∷ pairs n l

-- the table after stores, made in order
abbrev pub made : Table → List Store → Table
made t [] = t
made t (x ∷ xs) = made (set t x.0 x.1) xs
