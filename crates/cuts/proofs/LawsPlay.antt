-- Laws of playing a cut: what was answered can be told apart, and the questions that the code asks of P and N written out whole are the ones
-- that demand 3's domain asks of P and N. Assumes nothing.
use mathlib.Core.Path.{◌≡◌, refl, sym, ap, ◌∙◌}
use mathlib.Core.Bool.{true, ◌&&◌}
use mathlib.Core.List.{List, map}
use Prim.Native.Nat.{ℕ, ◌≤◌}
use native.Mathlib.Omega.{arith}
use lib.ListN.{length}
use Rattle.std.specs.Prelude.{None, Some}
use Rattle.rules.specs.Listing.{all}
use Rattle.rules.specs.Text.{differ}
use Rattle.rules.specs.Value.{Value, well_formed_argument}
use Rattle.rules.specs.Answer.{Answer, fine, refuse, ask, ◌then◌}
use Rattle.rules.specs.CallRecord.{Pair, CallRecord, read_call, encode_call, named_in}
use Rattle.rules.specs.CallQuestions.{kinds_right, well_formed_pair, parts_well_formed, entries_differ, names_differ, ask_form, ask_call}
use Rattle.rules.specs.Binding.{texts_of}
use Rattle.rules.specs.Demand3.{whole_record}
use Rattle.rules.proofs.LawsListing.{and_left, and_right, and_both, same_test, map_map}
use Rattle.rules.proofs.LawsRecord.{read_call_encode_call}
use Rattle.rules.proofs.LawsAnswer.{then_left, then_right, ask_true}
use Rattle.rules.proofs.LawsCut.{call_fine}
use Rattle.calls.proofs.LawsCall.{form_parts}
use Rattle.cuts.specs.Play.{passes}
use Rattle.cuts.specs.declared.Trial.{Trial}

-- ---- answers told apart

pub none_some : {X : Type 0} {t : Trial} → None ≡ Some t → X
none_some z = cc

pub some_one : {t u : Trial} → Some t ≡ Some u → t ≡ u
some_one z = cc

-- ---- the domain

pub passes_fine : (a : Answer) → passes a ≡ true → a ≡ fine
passes_fine fine e = refl
passes_fine (refuse n d) e = let n : ◌≡◌ {A = ℕ} 0 1 = cc in absurd (omega arith)

-- 9 to 13 of P and N written out whole
module _ (area : List ℕ) (P : List Value) (N : List Pair) where
  names_same : names_differ area (whole_record P N) ≡ differ (texts_of (map (named_in area) N))
  unfolding names_differ whole_record texts_of
  names_same = ap differ (sym (map_map (named_in area) (λ v. v.name) N))

  parts_same : parts_well_formed area (whole_record P N) ≡ true → (all (well_formed_argument area) P && all (well_formed_pair area) N) ≡ true
  unfolding parts_well_formed whole_record
  parts_same e = and_left (all (well_formed_argument area) P && all (well_formed_pair area) N) true (and_left ((all (well_formed_argument area) P && all (well_formed_pair area) N) && true) true e)

  pub whole_formed : ask_call 64 (encode_call (whole_record P N)) area ≡ fine
      → (all (well_formed_argument area) P && (all (well_formed_pair area) N && differ (texts_of (map (named_in area) N)))) ≡ true
  unfolding ask_call
  whole_formed e =
      let r : CallRecord = whole_record P N in
      let cells : List ℕ = encode_call r in
      let later : (ask 12 (entries_differ area (read_call cells)) then ask 13 (names_differ area (read_call cells))) ≡ fine = then_right (ask_form 64 cells area) (ask 12 (entries_differ area (read_call cells)) then ask 13 (names_differ area (read_call cells))) e in
      let formed : (all (well_formed_argument area) P && all (well_formed_pair area) N) ≡ true =
      parts_same (ap (parts_well_formed area) (sym (read_call_encode_call r)) ∙ form_parts 64 cells area (then_left (ask_form 64 cells area) (ask 12 (entries_differ area (read_call cells)) then ask 13 (names_differ area (read_call cells))) e)) in
      and_both (all (well_formed_argument area) P) (all (well_formed_pair area) N && differ (texts_of (map (named_in area) N)))
      (and_left (all (well_formed_argument area) P) (all (well_formed_pair area) N) formed)
      (and_both (all (well_formed_pair area) N) (differ (texts_of (map (named_in area) N))) (and_right (all (well_formed_argument area) P) (all (well_formed_pair area) N) formed)
      (sym names_same ∙ ap (names_differ area) (sym (read_call_encode_call r)) ∙ ask_true 13 (names_differ area (read_call cells)) (then_right (ask 12 (entries_differ area (read_call cells))) (ask 13 (names_differ area (read_call cells))) later)))

  pub formed_whole : length P ≤ 64 → length N ≤ 64 → (all (well_formed_argument area) P && (all (well_formed_pair area) N && differ (texts_of (map (named_in area) N)))) ≡ true
      → ask_call 64 (encode_call (whole_record P N)) area ≡ fine
  unfolding whole_record kinds_right parts_well_formed entries_differ
  formed_whole few_P few_N e =
      let values : all (well_formed_argument area) P ≡ true = and_left (all (well_formed_argument area) P) (all (well_formed_pair area) N && differ (texts_of (map (named_in area) N))) e in
      let rest : (all (well_formed_pair area) N && differ (texts_of (map (named_in area) N))) ≡ true = and_right (all (well_formed_argument area) P) (all (well_formed_pair area) N && differ (texts_of (map (named_in area) N))) e in
      let pairs : all (well_formed_pair area) N ≡ true = and_left (all (well_formed_pair area) N) (differ (texts_of (map (named_in area) N))) rest in
      call_fine 64 area (whole_record P N) (record { positionals = few_P; named = few_N; items = omega arith; entries = omega arith }) refl (rw (values, pairs)) refl
      (names_same ∙ and_right (all (well_formed_pair area) N) (differ (texts_of (map (named_in area) N))) rest)

  pub whole_passes : length P ≤ 64 → length N ≤ 64 → passes (ask_call 64 (encode_call (whole_record P N)) area)
      ≡ (all (well_formed_argument area) P && (all (well_formed_pair area) N && differ (texts_of (map (named_in area) N))))
  whole_passes few_P few_N =
      same_test (passes (ask_call 64 (encode_call (whole_record P N)) area)) (all (well_formed_argument area) P && (all (well_formed_pair area) N && differ (texts_of (map (named_in area) N))))
      (λ e. whole_formed (passes_fine (ask_call 64 (encode_call (whole_record P N)) area) e))
      (λ e. ap passes (formed_whole few_P few_N e))
