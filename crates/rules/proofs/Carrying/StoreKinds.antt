-- The kinds of store lists that touch one slot: a record put to it, its token cleared, its record rewritten under the flag. What
-- each leaves in the table's words. No law here knows which call lists them.
-- Assumes nothing.
use Prim.Native.Nat.{ℕ, ◌+◌, ◌*◌, ◌≤◌, ◌<◌}
use mathlib.Core.Path.{◌≡◌, refl, sym, ◌∙◌}
use mathlib.Core.List.{List, ◌++◌}
use mathlib.Core.Logic.{inl, inr}
use native.Mathlib.Omega.{arith}
use lib.ListN.{length}
use Rattle.rules.specs.Words.{Table, flag_of, token_word, key_word, function_word, place_word, key_in, record_in, token_of, show, hide}
use Rattle.rules.specs.Stores.{Store, put_stores, clear_stores, log_stores, redo_stores, made}
use Rattle.rules.specs.declared.Header.{Header}
use Rattle.rules.specs.declared.Slot.{Slot}
use Rattle.rules.specs.declared.Record.{Record}
use Rattle.rules.proofs.Words.Made.{made_kept, made_left}
use Rattle.rules.proofs.Carrying.Touched.{Touched, touched}

-- u is t with the token word v in slot x's bucket, and a key and a record in slot x
pub record SlotWritten (t u : Table) (x : Slot) (v k : ℕ) (r : Record) : Type 0 where
  pub near : Touched t u x
  pub token : token_of u x.bucket ≡ v
  pub key : key_in u x ≡ k
  pub value : record_in u x ≡ r
  pub flag : flag_of u ≡ flag_of t

pub record_parts : {r s : Record} → r.function ≡ s.function → r.place ≡ s.place → r ≡ s
record_parts e f = λ i. record { function = e i; place = f i }

module _ (t : Table) (x : Slot) (low : x.slot < 4) (within : 9 + 13 * x.bucket + 13 ≤ length t) where
  -- "key, function, place, token", where the token word was w
  pub put_written : (h : Header) (w key : ℕ) (r : Record) → SlotWritten t (made t (put_stores h w x key r)) x (show h w x.slot key) key r
  unfolding put_stores token_of key_in record_in flag_of token_word key_word function_word place_word
  put_written h w key r =
      let xs = put_stores h w x key r in
      record {
        near = touched x low t xs (inr (inr (omega arith)), (inr (inr (omega arith)), (inr (inr (omega arith)), (inr (inl refl), tt))));
        token = made_left t xs (token_word x.bucket) (show h w x.slot key) (omega arith) (inr (inr (inr (inl (refl, refl, tt)))));
        key = made_left t xs (key_word x) key (omega arith) (inl (refl, refl, (omega arith, (omega arith, (omega arith, tt)))));
        value = record_parts
            (made_left t xs (key_word x + 1) r.function (omega arith) (inr (inl (refl, refl, (omega arith, (omega arith, tt))))))
            (made_left t xs (key_word x + 2) r.place (omega arith) (inr (inr (inl (refl, refl, (omega arith, tt))))));
        flag = made_kept t xs 5 (omega arith, (omega arith, (omega arith, (omega arith, tt))));
      }

  -- "token cleared"
  pub clear_written : (h : Header) (w : ℕ) → SlotWritten t (made t (clear_stores h w x)) x (hide h w x.slot) (key_in t x) (record_in t x)
  unfolding clear_stores token_of key_in record_in flag_of token_word key_word function_word place_word
  clear_written h w =
      let xs = clear_stores h w x in
      record {
        near = touched x low t xs (inr (inl refl), tt);
        token = made_left t xs (token_word x.bucket) (hide h w x.slot) (omega arith) (inl (refl, refl, tt));
        key = made_kept t xs (key_word x) (omega arith, tt);
        value = record_parts (made_kept t xs (key_word x + 1) (omega arith, tt)) (made_kept t xs (key_word x + 2) (omega arith, tt));
        flag = made_kept t xs 5 (omega arith, tt);
      }

  -- "words 6, 7, 8; flag 1; function, place in the slot; flag 0", from flag 0
  pub log_written : (r : Record) → flag_of t ≡ 0 → SlotWritten t (made t (log_stores x r ++ redo_stores x r)) x (token_of t x.bucket) (key_in t x) r
  unfolding redo_stores token_of key_in record_in flag_of token_word key_word function_word place_word
  log_written r clear =
      let xs : List Store = log_stores x r ++ redo_stores x r in
      record {
        near = touched x low t xs (
          inl (omega arith),
          (
            inl (omega arith),
            (inl (omega arith), (inl (omega arith), (inr (inr (omega arith)), (inr (inr (omega arith)), (inl (omega arith), tt))))),
          ),
        );
        token = made_kept t xs (token_word x.bucket)
            (omega arith, (omega arith, (omega arith, (omega arith, (omega arith, (omega arith, (omega arith, tt)))))));
        key = made_kept t xs (key_word x) (omega arith, (omega arith, (omega arith, (omega arith, (omega arith, (omega arith, (omega arith, tt)))))));
        value = record_parts
            (made_left t xs (key_word x + 1) r.function (omega arith) (inr (inr (inr (inr (inl (refl, refl, (omega arith, (omega arith, tt)))))))))
            (made_left t xs (key_word x + 2) r.place (omega arith) (inr (inr (inr (inr (inr (inl (refl, refl, (omega arith, tt)))))))));
        flag = made_left t xs 5 0 (omega arith) (inr (inr (inr (inr (inr (inr (inl (refl, refl, tt)))))))) ∙ sym clear;
      }
