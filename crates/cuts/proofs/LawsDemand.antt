-- Demand 3 carried over to what the code returns. In this order: sizes that pass their test, the cells that are written for a cut and for P and N
-- written out whole, and from what two records gave to what playing the cut promises. Assumes nothing.
use mathlib.Core.Path.{◌≡◌, refl, sym, ap, subst, ◌∙◌}
use mathlib.Core.Bool.{Bool, true, false, ◌&&◌}
use mathlib.Core.List.{List, [], ◌++◌, map}
use Prim.Native.Nat.{ℕ, ◌+◌, ◌-◌, ◌*◌, ◌/◌, ◌%◌, ◌≤◌}
use native.Mathlib.Omega.{arith}
use lib.Dec.{leb, eqb}
use lib.ListN.{length, take, drop, length-append}
use lib.Seq.{take_all, take_at, drop-length}
use Rattle.std.specs.Prelude.{Option, None, Result}
use borrow.Author.Tests.{leb-true, eqb-true}
use Rattle.rules.specs.Listing.{all}
use Rattle.rules.specs.Cells.{over}
use Rattle.rules.specs.Text.{differ}
use Rattle.rules.specs.Value.{Value, value_width, read_value, well_formed_argument}
use Rattle.rules.specs.CallRecord.{Pair, pair_width, read_pair, encode_call, named_in}
use Rattle.rules.specs.ParameterQuestions.{ask_parameters}
use Rattle.rules.specs.CallQuestions.{well_formed_pair, ask_call}
use Rattle.rules.specs.Binding.{texts_of}
use Rattle.rules.specs.Board.{board_least_64}
use Rattle.rules.specs.Collection.{board_left, collection}
use Rattle.rules.specs.CanFill.{answered, fillable}
use Rattle.rules.specs.Demand3.{Cut, cut_record, whole_record, merge, is_accepted, Domain, Demand3, ending}
use Rattle.rules.proofs.LawsListing.{and_left, and_right, and_no_left}
use Rattle.rules.proofs.Demand3.{demand_3_64}
use Rattle.calls.proofs.LawsEach.{each_length}
use Rattle.answers.specs.Answer.{told}
use Rattle.can_fill.specs.CanFill.{filling_in}
use Rattle.collector.specs.Collect.{Ends}
use Rattle.answers.specs.declared.answer.Counts.{Counts}
use Rattle.answers.specs.declared.answer.Refusal.{Refusal}
use Rattle.cells.specs.declared.question.Question.{Question}
use Rattle.cuts.specs.Record.{values_of, pairs_of, head_cells, run_of, Fits}
use Rattle.cuts.specs.Play.{passes, sizes_right, passing, in_domain, Demanded, Playing, records_pass, Tried}
use Rattle.cuts.specs.declared.Trial.{Trial}
use Rattle.cuts.proofs.LawsRun.{run_length}
use Rattle.cuts.proofs.LawsWrite.{cut_cells}
use Rattle.cuts.proofs.LawsPlay.{none_some, passes_fine, whole_formed, whole_passes}

-- ---- sizes

-- the cut that writes everything out
abbrev pub whole_cut : List ℕ → List ℕ → Cut
whole_cut positionals named =
    record { at_p = length positionals / 2; at_n = length named / 4; list_given = false; dictionary_given = false }

pub sizes_fit : (positionals named : List ℕ) (c : Cut) → sizes_right (length positionals) (length named) c ≡ true → Fits positionals named c
sizes_fit positionals named c e =
    record {
      whole_values = eqb-true (p % 2) 0 (and_left (eqb (p % 2) 0) after1 e);
      whole_pairs = eqb-true (n % 4) 0 (and_left (eqb (n % 4) 0) after2 e1);
      few_values = leb-true (p / 2) 64 (and_left (leb (p / 2) 64) after3 e2);
      few_pairs = leb-true (n / 4) 64 (and_left (leb (n / 4) 64) after4 e3);
      within_values = leb-true c.at_p (p / 2) (and_left (leb c.at_p (p / 2)) (leb c.at_n (n / 4)) e4);
      within_pairs = leb-true c.at_n (n / 4) (and_right (leb c.at_p (p / 2)) (leb c.at_n (n / 4)) e4);
    }
  where
    p : ℕ
    p = length positionals

    n : ℕ
    n = length named

    after4 : Bool
    after4 = leb c.at_p (p / 2) && leb c.at_n (n / 4)

    after3 : Bool
    after3 = leb (n / 4) 64 && after4

    after2 : Bool
    after2 = leb (p / 2) 64 && after3

    after1 : Bool
    after1 = eqb (n % 4) 0 && after2

    e1 : after1 ≡ true
    e1 = and_right (eqb (p % 2) 0) after1 e

    e2 : after2 ≡ true
    e2 = and_right (eqb (n % 4) 0) after2 e1

    e3 : after3 ≡ true
    e3 = and_right (leb (p / 2) 64) after3 e2

    e4 : after4 ≡ true
    e4 = and_right (leb (n / 4) 64) after4 e3

module _ (positionals named : List ℕ) (c : Cut) (fits : Fits positionals named c) where
  pub whole_fits : Fits positionals named (whole_cut positionals named)
  whole_fits =
      record {
        whole_values = fits.whole_values;
        whole_pairs = fits.whole_pairs;
        few_values = fits.few_values;
        few_pairs = fits.few_pairs;
        within_values = omega arith;
        within_pairs = omega arith;
      }

  -- ---- the cells that are written

  cut_length : length (encode_call (cut_record (values_of positionals) (pairs_of named) c)) ≡ 6 + length positionals + length named
  cut_length =
      let s : ℕ = length positionals / 2 - c.at_p in
      let d : ℕ = length named / 4 - c.at_n in
      let four : List ℕ = run_of named (4 * c.at_n) (2 * d) in
      let three : List ℕ = run_of positionals (2 * c.at_p) s in
      let two : List ℕ = run_of named 0 (2 * c.at_n) in
      let one : List ℕ = run_of positionals 0 c.at_p in
      ap length (cut_cells positionals named c fits)
      ∙ length-append (head_cells c s d) (one ++ (two ++ (three ++ four)))
      ∙ sum (length (one ++ (two ++ (three ++ four)))) (length one) (length (two ++ (three ++ four))) (length two) (length (three ++ four)) (length three) (length four)
      (length-append one (two ++ (three ++ four))) (length-append two (three ++ four)) (length-append three four)
      (run_length positionals 0 c.at_p) (run_length named 0 (2 * c.at_n)) (run_length positionals (2 * c.at_p) s) (run_length named (4 * c.at_n) (2 * d))
    where
      sum : (all one after_one two after_two three four : ℕ) → all ≡ one + after_one → after_one ≡ two + after_two → after_two ≡ three + four
          → one ≡ 2 * c.at_p → two ≡ 2 * (2 * c.at_n) → three ≡ 2 * (length positionals / 2 - c.at_p) → four ≡ 2 * (2 * (length named / 4 - c.at_n))
          → 6 + all ≡ 6 + length positionals + length named
      sum all one after_one two after_two three four a b e f g h i =
          omega (arith, fits.whole_values, fits.whole_pairs, fits.within_values, fits.within_pairs)

  pub part_cells : (out held : List ℕ) → held ≡ over (encode_call (cut_record (values_of positionals) (pairs_of named) c)) out
      → take (6 + length positionals + length named) held ≡ encode_call (cut_record (values_of positionals) (pairs_of named) c)
  unfolding over
  part_cells out held e =
      ap (take (6 + length positionals + length named)) e
      ∙ take_at (encode_call (cut_record (values_of positionals) (pairs_of named) c)) (drop (length (encode_call (cut_record (values_of positionals) (pairs_of named) c))) out) (6 + length positionals + length named) cut_length

-- a cut that writes everything out leaves nothing for the stars
whole_cut_lem : (P : List Value) (N : List Pair) (a b : ℕ) → length P ≡ a → length N ≡ b
    → cut_record P N (record { at_p = a; at_n = b; list_given = false; dictionary_given = false }) ≡ whole_record P N
unfolding cut_record whole_record
whole_cut_lem P N a b p n =
    let front_P : take a P ≡ P = take_all a P (omega arith) in
    let front_N : take b N ≡ N = take_all b N (omega arith) in
    let rest_P : drop a P ≡ [] = ap (λ k. drop k P) (sym p) ∙ drop-length P in
    let rest_N : drop b N ≡ [] = ap (λ k. drop k N) (sym n) ∙ drop-length N in
    rw (front_P, front_N, rest_P, rest_N)

many_values : (positionals : List ℕ) → length (values_of positionals) ≡ length positionals / 2
many_values positionals = each_length value_width read_value (length positionals / 2) positionals

many_pairs : (named : List ℕ) → length (pairs_of named) ≡ length named / 4
many_pairs named = each_length pair_width read_pair (length named / 4) named

pub whole_cells : (positionals named : List ℕ) → encode_call (cut_record (values_of positionals) (pairs_of named) (whole_cut positionals named)) ≡ encode_call (whole_record (values_of positionals) (pairs_of named))
whole_cells positionals named =
    ap encode_call (whole_cut_lem (values_of positionals) (pairs_of named) (length positionals / 2) (length named / 4) (many_values positionals) (many_pairs named))

-- ---- what is played

module _ (spec_cells spec_bytes positionals named call_bytes : List ℕ) (c : Cut) (before : List ℕ) where
  pub play_outside : sizes_right (length positionals) (length named) c ≡ false → Playing spec_cells spec_bytes positionals named call_bytes c before before None
  unfolding in_domain
  play_outside e =
      record {
        outside = λ z.
            and_no_left (sizes_right (length positionals) (length named) c) (passing spec_cells spec_bytes (values_of positionals) (pairs_of named) call_bytes (length before)) e;
        untouched = λ z. refl;
        inside = λ t z. none_some z;
        numbered = λ t z. none_some z;
        ended = λ t z. none_some z;
      }

  module _ (sizes : sizes_right (length positionals) (length named) c ≡ true) where
    P : List Value
    P = values_of positionals

    N : List Pair
    N = pairs_of named

    formed : Bool
    formed =
        all (well_formed_argument call_bytes) P && (all (well_formed_pair call_bytes) N && differ (texts_of (map (named_in call_bytes) N)))

    few_P : length P ≤ 64
    unfolding P
    few_P = let e : length (values_of positionals) ≡ length positionals / 2 = many_values positionals in omega (arith, e, (sizes_fit positionals named c sizes).few_values)

    few_N : length N ≤ 64
    unfolding N
    few_N = let e : length (pairs_of named) ≡ length named / 4 = many_pairs named in omega (arith, e, (sizes_fit positionals named c sizes).few_pairs)

    -- the code's test is the domain
    tested : in_domain spec_cells spec_bytes positionals named call_bytes c before ≡ records_pass spec_cells spec_bytes (encode_call (whole_record P N)) call_bytes (length before)
    unfolding in_domain passing P N
    tested =
        ap (λ b. b && passing spec_cells spec_bytes (values_of positionals) (pairs_of named) call_bytes (length before)) sizes
        ∙ ap (λ b. passes (ask_parameters 64 spec_cells spec_bytes) && (b && leb 896 (length before))) (sym (whole_passes call_bytes P N few_P few_N))

    domain : records_pass spec_cells spec_bytes (encode_call (whole_record P N)) call_bytes (length before) ≡ true → Domain 64 64 spec_cells spec_bytes call_bytes P N before
    domain e =
        let list : Bool = passes (ask_parameters 64 spec_cells spec_bytes) in
        let call : Bool = passes (ask_call 64 (encode_call (whole_record P N)) call_bytes) in
        let board : Bool = leb 896 (length before) in
        let later : (call && board) ≡ true = and_right list (call && board) e in
        let all-formed = whole_formed call_bytes P N (passes_fine (ask_call 64 (encode_call (whole_record P N)) call_bytes) (and_left call board later)) in
        let pairs : Bool = all (well_formed_pair call_bytes) N in
        let apart : Bool = differ (texts_of (map (named_in call_bytes) N)) in
        let named_formed : (pairs && apart) ≡ true = and_right (all (well_formed_argument call_bytes) P) (pairs && apart) all-formed in
        record {
          list_passes = passes_fine (ask_parameters 64 spec_cells spec_bytes) (and_left list (call && board) e);
          values_formed = and_left (all (well_formed_argument call_bytes) P) (pairs && apart) all-formed;
          pairs_formed = and_left pairs apart named_formed;
          no_name_twice = and_right pairs apart named_formed;
          few_values = few_P;
          few_names = few_N;
          room = subst (λ k. k ≤ length before) (sym board_least_64) (leb-true 896 (length before) (and_right call board later));
        }

    -- demand 3 of what two records gave
    demanded : (after : List ℕ) (e : Result Counts Refusal) (f : Result Bool Question) → Domain 64 64 spec_cells spec_bytes call_bytes P N before
        → Ends (ending 64 64 spec_cells spec_bytes call_bytes P N before c) before after e → filling_in f ≡ fillable 64 64 spec_cells spec_bytes (encode_call (whole_record P N)) call_bytes
        → Demanded spec_cells spec_bytes call_bytes P N c before after (told e after) f
    demanded after e f inside ends filling =
        let demand : Demand3 64 64 spec_cells spec_bytes call_bytes P N before = demand_3_64 spec_cells spec_bytes call_bytes P N before inside in
        record {
          domain = inside;
          this_cut = ends.answer;
          board = ends.board ∙ ap (λ o. board_left o before) (sym ends.answer);
          alike = λ x. ap merge ends.answer ∙ demand.alike c x;
          first_no = λ n d z. demand.first_no c n d (sym ends.answer ∙ z);
          from_placed = λ n d h z. demand.from_placed c n d h (sym ends.answer ∙ z);
          foretold = filling ∙ demand.foretold c ∙ ap (λ o. answered (is_accepted o)) (sym ends.answer);
          placed = λ counts cells z. demand.placed c counts cells (sym ends.answer ∙ z);
        }

    pub play_tried : (whole cells after : List ℕ) (r : Option Trial) → whole ≡ encode_call (whole_record (values_of positionals) (pairs_of named)) → cells ≡ encode_call (cut_record (values_of positionals) (pairs_of named) c)
        → Tried spec_cells spec_bytes whole cells call_bytes before after r → Playing spec_cells spec_bytes positionals named call_bytes c before after r
    unfolding P N
    play_tried whole cells after r is_whole is_cut tried =
        record {
          outside = λ z. tested ∙ sym asked ∙ tried.outside z;
          untouched = λ z. tried.untouched z;
          inside = λ t z. tested ∙ sym asked ∙ tried.passed t z;
          numbered = λ t z. (tried.collected t z).numbered;
          ended = λ t z.
              demanded after t.collected t.foretold (domain (sym asked ∙ tried.passed t z))
              (subst (λ l. Ends (collection 64 64 spec_cells spec_bytes l call_bytes before) before after t.collected) is_cut (tried.collected t z))
              (tried.filling t z ∙ ap (λ l. fillable 64 64 spec_cells spec_bytes l call_bytes) is_whole);
        }
      where
        asked : records_pass spec_cells spec_bytes whole call_bytes (length before) ≡ records_pass spec_cells spec_bytes (encode_call (whole_record P N)) call_bytes (length before)
        asked = ap (λ l. records_pass spec_cells spec_bytes l call_bytes (length before)) is_whole
