-- Laws of writing a cut's record: the head, and behind it four runs, are the cells that `rules` gives the cut.
-- Assumes nothing.
use mathlib.Core.Path.{◌≡◌, refl, sym, ap, ap₂, ◌∙◌}
use mathlib.Core.Bool.{Bool, true, false, cond}
use mathlib.Core.List.{List, [], ◌∷◌, ◌++◌, append_assoc}
use Prim.Native.Nat.{ℕ, suc, ◌+◌, ◌-◌, ◌*◌, ◌/◌, ◌≤◌}
use native.Mathlib.Omega.{arith}
use lib.ListN.{length, take, drop, length-append}
use borrow.Author.Tests.{lt-ltb}
use Rattle.rules.specs.Cells.{read_each, write_each, over}
use Rattle.rules.specs.Value.{value_width, value_cells, read_value}
use Rattle.rules.specs.CallRecord.{CallRecord, pair_width, pair_cells, read_pair, encode_call}
use Rattle.rules.specs.Demand3.{Cut, rest_kind, cut_record}
use Rattle.cells.specs.Out.{stored}
use Rattle.cells.proofs.LawsOut.{stored_over}
use Rattle.calls.proofs.LawsEach.{each_length}
use Rattle.cuts.specs.Record.{values_of, pairs_of, kind_of, head_cells, run_of, Fits}
use Rattle.cuts.proofs.LawsRun.{take_each_lem, drop_each, pairs_values}

-- ---- the whole record

rest_kind_lem : {X : Type 0} (given : Bool) (xs : List X) → rest_kind given xs ≡ kind_of given (length xs)
rest_kind_lem true [] = refl
rest_kind_lem false [] = refl
rest_kind_lem true (x ∷ xs) = refl
rest_kind_lem false (x ∷ xs) = ap (λ b. cond b 1 0) (sym (lt-ltb 0 (suc (length xs)) (omega arith)))

module _ (r : CallRecord) (p n s d : ℕ) (one two three four : List ℕ) where
  encode_parts : length r.positionals ≡ p → length r.named ≡ n → length r.items ≡ s → length r.entries ≡ d
      → write_each value_cells r.positionals ≡ one → write_each pair_cells r.named ≡ two → write_each value_cells r.items ≡ three → write_each pair_cells r.entries ≡ four
      → encode_call r ≡ p ∷ n ∷ r.star_kind ∷ s ∷ r.double_kind ∷ d ∷ (one ++ (two ++ (three ++ four)))
  unfolding encode_call
  encode_parts ep en es ed e1 e2 e3 e4 = rw (ep, en, es, ed, e1, e2, e3, e4)

module _ (positionals named : List ℕ) (c : Cut) (fits : Fits positionals named c) where
  s : ℕ
  s = length positionals / 2 - c.at_p

  d : ℕ
  d = length named / 4 - c.at_n

  front : take c.at_p (values_of positionals) ≡ read_each 2 read_value c.at_p positionals
  unfolding value_width
  front = take_each_lem 2 read_value c.at_p (length positionals / 2) positionals fits.within_values

  items : drop c.at_p (values_of positionals) ≡ read_each 2 read_value s (drop (2 * c.at_p) positionals)
  unfolding value_width s
  items = drop_each 2 read_value c.at_p (length positionals / 2) positionals fits.within_values

  written : take c.at_n (pairs_of named) ≡ read_each 4 read_pair c.at_n named
  unfolding pair_width
  written = take_each_lem 4 read_pair c.at_n (length named / 4) named fits.within_pairs

  entries : drop c.at_n (pairs_of named) ≡ read_each 4 read_pair d (drop (4 * c.at_n) named)
  unfolding pair_width d
  entries = drop_each 4 read_pair c.at_n (length named / 4) named fits.within_pairs

  many_items : length (drop c.at_p (values_of positionals)) ≡ s
  many_items = ap length items ∙ each_length 2 read_value s (drop (2 * c.at_p) positionals)

  many_entries : length (drop c.at_n (pairs_of named)) ≡ d
  many_entries = ap length entries ∙ each_length 4 read_pair d (drop (4 * c.at_n) named)

  pub cut_cells : encode_call (cut_record (values_of positionals) (pairs_of named) c)
      ≡ head_cells c (length positionals / 2 - c.at_p) (length named / 4 - c.at_n)
      ++ (run_of positionals 0 c.at_p ++ (run_of named 0 (2 * c.at_n) ++ (run_of positionals (2 * c.at_p) (length positionals / 2 - c.at_p) ++ run_of named (4 * c.at_n) (2 * (length named / 4 - c.at_n)))))
  unfolding cut_record s d value_width pair_width
  cut_cells =
      encode_parts (cut_record (values_of positionals) (pairs_of named) c) c.at_p c.at_n s d (run_of positionals 0 c.at_p) (run_of named 0 (2 * c.at_n)) (run_of positionals (2 * c.at_p) s) (run_of named (4 * c.at_n) (2 * d))
      (ap length front ∙ each_length 2 read_value c.at_p positionals)
      (ap length written ∙ each_length 4 read_pair c.at_n named)
      many_items
      many_entries
      (ap (write_each value_cells) front)
      (ap (write_each pair_cells) written ∙ pairs_values c.at_n named)
      (ap (write_each value_cells) items)
      (ap (write_each pair_cells) entries ∙ pairs_values d (drop (4 * c.at_n) named))
      ∙ ap₂ (λ k l. c.at_p ∷ c.at_n ∷ k ∷ s ∷ l ∷ d ∷ (run_of positionals 0 c.at_p ++ (run_of named 0 (2 * c.at_n) ++ (run_of positionals (2 * c.at_p) s ++ run_of named (4 * c.at_n) (2 * d)))))
      (rest_kind_lem c.list_given (drop c.at_p (values_of positionals)) ∙ ap (kind_of c.list_given) many_items)
      (rest_kind_lem c.dictionary_given (drop c.at_n (pairs_of named)) ∙ ap (kind_of c.dictionary_given) many_entries)

-- four runs stored behind what was written
module _ (out zero' one two three four head a b c d : List ℕ) (at_a at_b at_c at-d : ℕ) where
  pub four_stored : zero' ≡ over head out → one ≡ stored zero' at_a a → two ≡ stored one at_b b → three ≡ stored two at_c c → four ≡ stored three at-d d
      → at_a ≡ length head → at_b ≡ at_a + length a → at_c ≡ at_b + length b → at-d ≡ at_c + length c → at-d + length d ≤ length out
      → four ≡ over (head ++ (a ++ (b ++ (c ++ d)))) out
  four_stored is-head is-a is_b is_c is-d l-a l-b l-c l-d room = last ∙ ap (λ l. over l out) layout
    where
      size_a : length (head ++ a) ≡ length head + length a
      size_a = length-append head a

      size_b : length ((head ++ a) ++ b) ≡ length (head ++ a) + length b
      size_b = length-append (head ++ a) b

      size_c : length (((head ++ a) ++ b) ++ c) ≡ length ((head ++ a) ++ b) + length c
      size_c = length-append ((head ++ a) ++ b) c

      with_a : one ≡ over (head ++ a) out
      with_a = is-a ∙ stored_over zero' head out a at_a is-head l-a (omega arith)

      with_b : two ≡ over ((head ++ a) ++ b) out
      with_b = is_b ∙ stored_over one (head ++ a) out b at_b with_a (omega (arith, size_a)) (omega arith)

      with_c : three ≡ over (((head ++ a) ++ b) ++ c) out
      with_c = is_c ∙ stored_over two ((head ++ a) ++ b) out c at_c with_b (omega (arith, size_a, size_b)) (omega arith)

      last : four ≡ over ((((head ++ a) ++ b) ++ c) ++ d) out
      last = is-d ∙ stored_over three (((head ++ a) ++ b) ++ c) out d at-d with_c (omega (arith, size_a, size_b, size_c)) room

      layout : (((head ++ a) ++ b) ++ c) ++ d ≡ head ++ (a ++ (b ++ (c ++ d)))
      layout = append_assoc ((head ++ a) ++ b) c d ∙ append_assoc (head ++ a) b (c ++ d) ∙ append_assoc head a (b ++ (c ++ d))
