-- Laws of how a call ends: a refusal that is handed on, the general path's board, the short path's, and a record's own refusals. Each gives
-- the outcome of `rules`.
-- Assumes nothing.
use mathlib.Core.Path.{◌≡◌, refl, sym, ap, ap₂, subst, ◌∙◌}
use mathlib.Core.Bool.{true, false, ◌&&◌}
use mathlib.Core.List.{List, [], ◌∷◌, ◌++◌, map, append-nil}
use Prim.Native.Nat.{ℕ, suc, ◌+◌, ◌*◌, ◌≤◌, ◌<◌}
use Rattle.std.specs.Prelude.{Ok, Err}
use native.Mathlib.Nat.{zero-add}
use native.Mathlib.Omega.{arith}
use borrow.Author.Tests.{eqb-true, le-leb, lt-leb}
use lib.Dec.{eqb, leb}
use lib.ListN.{length, get_or, length-append}
use Rattle.rules.specs.Cells.{over, write_each}
use Rattle.rules.specs.Value.{Value, no_value, value_cells, call_text}
use Rattle.rules.specs.Answer.{Answer, fine, refuse, none, ◌then◌, ask}
use Rattle.rules.specs.CallRecord.{Head, read_head, read_call, call_in, entry_in, no_star, no_double, star_of, double_of, items_of, Call, Named, Key, Entry, word, number, word_of, words, entries_of, positionals_of, named_of}
use Rattle.rules.specs.Parameters.{Parameter, positional_count}
use Rattle.rules.specs.Placement as rules
use Rattle.rules.specs.Board.{board_after, board_least_64}
use Rattle.rules.specs.ParameterQuestions.{ask_parameters, list_of}
use Rattle.rules.specs.CallQuestions.{names_differ, ask_call, ask_board}
use Rattle.rules.specs.Binding.{ask_binding}
use Rattle.rules.specs.Collection.{accepted, outcome_of, call_of, ask_records, collection}
use Rattle.rules.proofs.LawsListing.{and_left, and_right}
use Rattle.rules.proofs.LawsRecord.{length_write_each}
use Rattle.rules.proofs.LawsNumbers.{number_by, wider_by, parameters_in_lem, call_in_lem}
use Rattle.rules.proofs.LawsShort.{tally_most, binding_short, counts_short, written_short}
use Rattle.cells.specs.Record.{pair_at}
use Rattle.cells.specs.Out.{stored}
use Rattle.cells.specs.Listed.{listed}
use Rattle.builder.specs.Params.{parameters_in}
use Rattle.builder.specs.declared.spec.ParametersSpec.{ParametersSpec}
use Rattle.cells.proofs.LawsListed.{length_listed, elements}
use Rattle.answers.specs.Answer.{record_numbered, is_numbered, answer_in, counts_of}
use Rattle.cells.specs.Question.{number_of, refused}
use Rattle.cells.specs.declared.question.Question.{Question}
use Rattle.cells.specs.declared.question.Question.TheVariants.{RepeatedName, ShortBoard}
use Rattle.calls.specs.Head.{named_from, entries_from}
use Rattle.calls.specs.Keys.{ask_keys}
use Rattle.calls.proofs.LawsCall.{call_in_turn, keys_form}
use Rattle.findings.specs.Resolved.{named_at, Resolved}
use Rattle.findings.specs.EntriesDone.{entry_at}
use Rattle.calls.specs.Values.{positional_at, values_in}
use Rattle.slots.specs.Board.{BoardReady, BoardWritten}
use Rattle.questions.specs.Questions.{CallReady}
use Rattle.collector.specs.Collect.{Ends, binding_of, bound_to, is_short, ShortCall}
use Rattle.answers.proofs.LawsTold.{list_numbered, call_numbered}
use Rattle.answers.specs.declared.answer.Counts.{Counts}
use Rattle.answers.specs.declared.answer.Refusal.{Refusal}
use Rattle.answers.specs.declared.answer.Refusal.TheVariants.{Record}
use Rattle.collector.proofs.LawsReady.{none_written}
use Rattle.cells.proofs.LawsOut.{stored_first}
use Rattle.cells.proofs.LawsWrite.{value_cells_two}
use Rattle.findings.proofs.LawsRecord.{positionals_are}
use Rattle.findings.proofs.LawsNames.{few_list, length_list}
use Rattle.slots.proofs.LawsWritten.{board_placed, counts_placed}

-- ---- a refusal

module _ (qs : List Parameter) (P : List Value) (N : List Named) (board : List ℕ) where
  pub ends_refused : (asked : Answer) (a : Refusal) → is_numbered (Err a) ≡ true → answer_in (Err a) ≡ asked → Ends (outcome_of asked qs P N board) board board (Err a)
  ends_refused asked a m e = subst (λ x. Ends (outcome_of x qs P N board) board board (Err a)) e (record { answer = refl; numbered = m; board = refl })

  -- ---- an acceptance

  pub ends_accepted : (asked : Answer) (after : List ℕ) (c : Counts) → asked ≡ fine → counts_of c ≡ rules.counts_of qs P N → after ≡ board_after qs P N board → Ends (outcome_of asked qs P N board) board after (Ok c)
  ends_accepted asked after c e counts so =
      subst (λ x. Ends (outcome_of x qs P N board) board after (Ok c)) (sym e) (record { answer = ap₂ accepted counts so; numbered = refl; board = so })

-- ---- the general path

words_few : (es : List Entry) → length (words es) ≤ length es
words_few [] = omega arith
words_few (e ∷ es) = go e.key (words_few es)
  where
    go : (k : Key) → length (words es) ≤ length es → length (word_of k e.value ++ words es) ≤ suc (length es)
    go (word t) h = omega arith
    go (number n) h = omega arith

module _ (spec : List ℕ) (l : ParametersSpec) (cells area : List ℕ) (h : Head) (next : ℕ) (c : Call) (ready : CallReady spec l cells area h next c) (sources rest : List ℕ) (count : ℕ)
    (r : Resolved (parameters_in spec l.params) cells area (named_of c) sources rest count) where
  abbrev qs : List Parameter
  qs = parameters_in spec l.params

  names_few : length (named_of c) ≤ 128
  unfolding named_of
  names_few =
      omega (
        arith,
        length-append c.named (words (entries_of c.double)),
        ap length ready.written,
        length_listed (λ j. named_at area cells (named_from h + 4 * j)) 0 h.n,
        words_few (entries_of c.double),
        ap length ready.entries,
        length_listed (λ j. entry_at area cells (entries_from h + 4 * j)) 0 h.d,
        ready.few.few_n,
        ready.few.few_d,
      )

  count_few : count ≤ 128
  count_few = omega (arith, r.in_rest, names_few)

  pub board_ready : (board : List ℕ) → 896 ≤ length board → BoardReady l cells h rest count board
  unfolding positional_count
  board_ready board long =
      record {
        room = ready.list.is_list.room;
        few_positional = omega (arith, ready.list.is_list.positional, tally_most qs, few_list spec l cells area ready.list);
        few = ready.few;
        held = record {
          few = count_few;
          pairs = r.pairs;
          near = λ j below. (r.rest_named j below).near;
          text = λ j below. eqb-true (pair_at cells (get_or rest j 0)).kind call_text (r.rest_named j below).text;
        };
        long = long;
      }

  pub slow_ends : (before after : List ℕ) (counts : Counts) → 896 ≤ length before → fine ≡ ask_binding qs c → BoardWritten l cells h next sources rest count before after counts → Ends (binding_of qs c before) before after (Ok counts)
  slow_ends before after counts long passed so =
      ends_accepted qs (positionals_of c) (named_of c) before (ask_binding qs c) after counts (sym passed)
      (counts_placed spec l ready.list cells area (positionals_of c) (named_of c) sources rest count next ready.upto r count_few h ready.values ready.long before after counts so)
      (board_placed spec l ready.list cells area (positionals_of c) (named_of c) sources rest count next ready.upto r count_few h ready.values ready.long before after counts so (board_ready before long))

-- ---- the short path

module _ (qs : List Parameter) (c : Call) (cells : List ℕ) (h : Head) (short : ShortCall qs c cells h) (few : h.p ≤ 64) (before after : List ℕ) (long : 896 ≤ length before)
    (so : after ≡ stored before 0 (write_each value_cells (values_in cells h 0 h.p))) where
  values_length : length c.positionals ≡ h.p
  values_length = ap length short.values ∙ length_listed (positional_at cells h) 0 h.p

  all_values : positionals_of c ≡ c.positionals
  unfolding positionals_of
  all_values = rw short.no_star (append-nil c.positionals)

  no_names : named_of c ≡ []
  unfolding named_of
  no_names = rw (short.unnamed, short.no_double)

  pub short_ends : Ends (binding_of qs c before) before after (Ok (record { taken = h.p; defaulted = 0; star = 0; named = 0 }))
  unfolding board_after
  short_ends =
      rw (all_values, no_names)
      (ends_accepted qs c.positionals [] before (ask_binding qs c) after (record { taken = h.p; defaulted = 0; star = 0; named = 0 })
      (binding_short qs c.positionals short.all_positional just c refl short.unnamed short.no_star short.no_double)
      (ap (λ n. record { taken = n; defaulted = 0; star = 0; named = 0 }) (sym values_length) ∙ sym (counts_short qs c.positionals short.all_positional just))
      (so ∙ ap (λ vs. stored before 0 (write_each value_cells vs)) (sym short.values) ∙ stored_first before (write_each value_cells c.positionals) fits ∙ sym (ap (λ xs. over xs before) (written_short qs c.positionals short.all_positional just))))
    where
      just : length c.positionals ≡ length qs
      just = values_length ∙ short.as_many

      wide : length (write_each value_cells c.positionals) ≡ 2 * length c.positionals
      wide = length_write_each 2 (λ l. record { kind = 0; payload = 0 }) value_cells value_cells_two c.positionals

      fits : length (write_each value_cells c.positionals) ≤ length before
      fits = omega (arith, wide, values_length)

-- the short path is for calls without names
pub short_unnamed : (positional len : ℕ) (h : Head) → is_short positional len h ≡ true → h.n ≡ 0
short_unnamed positional len h e =
    eqb-true h.n 0
    (and_left (eqb h.n 0) (eqb h.star_kind 0 && eqb h.double_kind 0)
    (and_right (eqb positional len) (eqb h.n 0 && (eqb h.star_kind 0 && eqb h.double_kind 0))
    (and_right (eqb h.p positional) (eqb positional len && (eqb h.n 0 && (eqb h.star_kind 0 && eqb h.double_kind 0))) e)))

-- a record that passed its questions, where the short path applies
module _ (spec : List ℕ) (l : ParametersSpec) (cells area : List ℕ) (h : Head) (read : h ≡ read_head cells) (next : ℕ) (ready : CallReady spec l cells area h next (call_of cells area)) (applies : is_short l.indices.num_positional l.params.len h ≡ true) where
  abbrev call : Call
  call = call_of cells area

  abbrev positional : ℕ
  positional = l.indices.num_positional

  same_p : h.p ≡ positional
  same_p = eqb-true h.p positional (and_left (eqb h.p positional) (eqb positional l.params.len && (eqb h.n 0 && (eqb h.star_kind 0 && eqb h.double_kind 0))) applies)

  after_p : (eqb positional l.params.len && (eqb h.n 0 && (eqb h.star_kind 0 && eqb h.double_kind 0))) ≡ true
  after_p = and_right (eqb h.p positional) (eqb positional l.params.len && (eqb h.n 0 && (eqb h.star_kind 0 && eqb h.double_kind 0))) applies

  same_len : positional ≡ l.params.len
  same_len = eqb-true positional l.params.len (and_left (eqb positional l.params.len) (eqb h.n 0 && (eqb h.star_kind 0 && eqb h.double_kind 0)) after_p)

  after_len : (eqb h.n 0 && (eqb h.star_kind 0 && eqb h.double_kind 0)) ≡ true
  after_len = and_right (eqb positional l.params.len) (eqb h.n 0 && (eqb h.star_kind 0 && eqb h.double_kind 0)) after_p

  kinds_none : (eqb h.star_kind 0 && eqb h.double_kind 0) ≡ true
  kinds_none = and_right (eqb h.n 0) (eqb h.star_kind 0 && eqb h.double_kind 0) after_len

  star_none : call.star ≡ no_star
  unfolding call_of call_in read_call
  star_none = ap (λ k. star_of k (read_call cells).items) (ap (λ x. x.star_kind) (sym read) ∙ eqb-true h.star_kind 0 (and_left (eqb h.star_kind 0) (eqb h.double_kind 0) kinds_none))

  double_none : call.double ≡ no_double
  unfolding call_of call_in read_call
  double_none = ap (λ k. double_of k (map (entry_in area) (read_call cells).entries)) (ap (λ x. x.double_kind) (sym read) ∙ eqb-true h.double_kind 0 (and_right (eqb h.star_kind 0) (eqb h.double_kind 0) kinds_none))

  only_written : positionals_of call ≡ call.positionals
  unfolding positionals_of
  only_written = ap (λ s. call.positionals ++ items_of s) star_none ∙ append-nil call.positionals

  written_length : length call.positionals ≡ h.p
  unfolding call_of call_in
  written_length = positionals_are cells area h read

  pub short_call : ShortCall (parameters_in spec l.params) call cells h
  short_call =
      record {
        all_positional = sym ready.list.is_list.positional ∙ same_len ∙ sym (length_list spec l cells area ready.list);
        as_many = same_p ∙ same_len ∙ sym (length_list spec l cells area ready.list);
        values =
            elements (positional_at cells h) no_value 0 call.positionals
            (λ k below. ap (λ vs. get_or vs k no_value) (sym only_written) ∙ ready.values k (rw only_written below) ∙ ap (positional_at cells h) (sym (zero-add k)))
            ∙ ap (listed (positional_at cells h) 0) written_length;
        unnamed = ready.written ∙ ap (listed (λ k. named_at area cells (named_from h + 4 * k)) 0) (short_unnamed positional l.params.len h applies);
        no_star = star_none;
        no_double = double_none;
      }

-- ---- a record's own questions

module _ (qs : List Parameter) (cells area board : List ℕ) where
  abbrev c : Call
  c = call_of cells area

  -- 14
  board_asked : ask_board 64 64 board ≡ ask 14 (leb 896 (length board))
  unfolding ask_board
  board_asked = ap (λ n. ask 14 (leb n (length board))) board_least_64

  pub bound_refused : (q : Question) → ask_call 64 cells area ≡ refused q → Ends (bound_to qs cells area board) board board (Err (Record q))
  unfolding bound_to
  bound_refused q e =
      ends_refused qs (positionals_of c) (named_of c) board (ask_call 64 cells area then ask_board 64 64 board then ask_binding qs c) (Record q)
      (number_by record_numbered (ask_call 64 cells area) (number_of q) none (wider_by 9 13 record_numbered (λ k l m. call_numbered k l (omega arith)) (ask_call 64 cells area) (call_in_lem 64 cells area)) e)
      (sym (ap (λ a. a then ask_board 64 64 board then ask_binding qs c) e))

  -- what 9 to 12 refuse, and 13 after them
  pub bound_keys : (q : Question) → ask_keys 64 cells area ≡ refused q → Ends (bound_to qs cells area board) board board (Err (Record q))
  bound_keys q e = bound_refused q (call_in_turn 64 cells area ∙ ap (λ a. a then ask 13 (names_differ area (read_call cells))) e)

  pub bound_names : ask_keys 64 cells area ≡ fine → names_differ area (read_call cells) ≡ false → Ends (bound_to qs cells area board) board board (Err (Record RepeatedName))
  bound_names e d = bound_refused RepeatedName (call_in_turn 64 cells area ∙ ap (λ a. a then ask 13 (names_differ area (read_call cells))) e ∙ ap (ask 13) d)

  pub call_passed : ask_keys 64 cells area ≡ fine → names_differ area (read_call cells) ≡ true → ask_call 64 cells area ≡ fine
  call_passed e d = call_in_turn 64 cells area ∙ ap (λ a. a then ask 13 (names_differ area (read_call cells))) e ∙ ap (ask 13) d

  module _ (passed : ask_call 64 cells area ≡ fine) where
    pub bound_short_board : length board < 896 → Ends (bound_to qs cells area board) board board (Err (Record ShortBoard))
    unfolding bound_to
    bound_short_board low =
        ends_refused qs (positionals_of c) (named_of c) board (ask_call 64 cells area then ask_board 64 64 board then ask_binding qs c) (Record ShortBoard) refl
        (sym (ap (λ a. a then ask_board 64 64 board then ask_binding qs c) passed ∙ ap (λ a. a then ask_binding qs c) (board_asked ∙ ap (ask 14) (lt-leb 896 (length board) low))))

    pub bound_binding : 896 ≤ length board → bound_to qs cells area board ≡ binding_of qs c board
    unfolding bound_to
    bound_binding long =
        ap (λ a. outcome_of a qs (positionals_of c) (named_of c) board)
        (ap (λ a. a then ask_board 64 64 board then ask_binding qs c) passed ∙ ap (λ a. a then ask_binding qs c) (board_asked ∙ ap (ask 14) (le-leb 896 (length board) long)))

-- a call that the short path is for has no names, so 13 is passed
pub short_passed : (cells area : List ℕ) (h : Head) → h ≡ read_head cells → ask_keys 64 cells area ≡ fine → (positional len : ℕ) → is_short positional len h ≡ true → ask_call 64 cells area ≡ fine
short_passed cells area h read passed positional len applies =
    call_passed [] cells area [] passed (none_written cells area h read (keys_form 64 cells area passed) (short_unnamed positional len h applies))

-- ---- a parameter record's, before all of these

module _ (spec_cells spec cells area board : List ℕ) where
  in_turn : (a b d e : Answer) → ((a then b then d) then e) ≡ (a then b then d then e)
  in_turn (refuse n x) b d e = refl
  in_turn fine (refuse n x) d e = refl
  in_turn fine fine d e = refl

  pub collection_refused : (q : Question) → ask_parameters 64 spec_cells spec ≡ refused q → Ends (collection 64 64 spec_cells spec cells area board) board board (Err (Record q))
  unfolding collection ask_records
  collection_refused q e =
      ends_refused (list_of spec_cells spec) (positionals_of (call_of cells area)) (named_of (call_of cells area)) board
      ((ask_parameters 64 spec_cells spec then ask_call 64 cells area then ask_board 64 64 board) then ask_binding (list_of spec_cells spec) (call_of cells area)) (Record q)
      (number_by record_numbered (ask_parameters 64 spec_cells spec) (number_of q) none (wider_by 1 7 record_numbered list_numbered (ask_parameters 64 spec_cells spec) (parameters_in_lem 64 spec_cells spec)) e)
      (sym (ap (λ a. (a then ask_call 64 cells area then ask_board 64 64 board) then ask_binding (list_of spec_cells spec) (call_of cells area)) e))

  pub collection_bound : (qs : List Parameter) → ask_parameters 64 spec_cells spec ≡ fine → qs ≡ list_of spec_cells spec → bound_to qs cells area board ≡ collection 64 64 spec_cells spec cells area board
  unfolding collection ask_records bound_to
  collection_bound list passed is =
      ap (λ ps. bound_to ps cells area board) is
      ∙ ap (λ a. outcome_of a (list_of spec_cells spec) (positionals_of (call_of cells area)) (named_of (call_of cells area)) board)
      (sym
      (in_turn (ask_parameters 64 spec_cells spec) (ask_call 64 cells area) (ask_board 64 64 board) (ask_binding (list_of spec_cells spec) (call_of cells area))
      ∙ ap (λ a. a then ask_call 64 cells area then ask_board 64 64 board then ask_binding (list_of spec_cells spec) (call_of cells area)) passed))
