-- A call record that passes 9 to 11 is ready to be asked 15 to 24: its call's names, entries and values of P are what stands at the
-- places that the code computes. Before that: arrays of zeros, in which no name is resolved. `h` is the head that was read.
-- Assumes nothing.
use mathlib.Core.Path.{◌≡◌, sym, ap, ap₂, ◌∙◌}
use mathlib.Core.Bool.{true, ◌&&◌}
use mathlib.Core.List.{List, [], map}
use Prim.Native.Nat.{ℕ, ◌+◌, ◌*◌, min, ◌≤◌, ◌<◌}
use native.Mathlib.Omega.{arith}
use lib.Dec.{leb, eqb}
use lib.ListN.{length, drop, get_or, replicate, length-replicate, get_or-replicate}
use Rattle.rules.specs.Cells.{read_each}
use Rattle.rules.specs.Text.{size_of, inside, is_text, differ}
use Rattle.rules.specs.Value.{Value, no_value, value_width, call_text, well_formed_name, well_formed_key}
use Rattle.rules.specs.Answer.{fine}
use Rattle.rules.specs.CallRecord.{Head, Pair, head_width, pair_width, read_head, read_pair, read_call, named_in, entry_in, call_in, entries_of, positionals_of}
use Rattle.rules.specs.CallQuestions.{lengths_right, kinds_right, well_formed_entry, names_differ, ask_form}
use Rattle.rules.specs.Binding.{texts_of}
use Rattle.rules.specs.Collection.{call_of}
use Rattle.rules.proofs.LawsListing.{and_left, map_map}
use Rattle.cells.specs.Record.{pair_at}
use Rattle.cells.specs.Listed.{listed}
use Rattle.builder.specs.Params.{parameters_in}
use Rattle.builder.specs.declared.spec.ParametersSpec.{ParametersSpec}
use Rattle.calls.specs.Head.{Few, named_from, entries_from}
use Rattle.calls.specs.Runs.{pairs_at}
use Rattle.cells.proofs.LawsListed.{all_at}
use Rattle.calls.proofs.LawsEach.{each_length, each_at, each_map}
use Rattle.calls.proofs.LawsForm.{entry_key}
use Rattle.calls.proofs.LawsCall.{names_by, lengths_few, positionals_within, named_within, formed_entries, form_lengths, form_kinds, form_parts}
use Rattle.calls.proofs.LawsPlaces.{named_run, entries_run, positionals_length, star_passes_lem, double_passes_lem, positional_at_lem}
use Rattle.findings.specs.Resolved.{named_at, Resolved}
use Rattle.findings.specs.Resolve.{Prepared, Pairs}
use Rattle.findings.specs.EntriesDone.{written_names, entry_at, entries_in}
use Rattle.calls.specs.Values.{positional_at}
use Rattle.questions.specs.Questions.{CallReady}
use Rattle.calls.proofs.LawsNamed.{name_inside_lem}
use Rattle.findings.proofs.LawsRecord.{pairs_listed, name_formed}
use Rattle.findings.proofs.LawsNames.{few_list}
use Rattle.findings.proofs.LawsResolved.{resolved_none}
use Rattle.collector.specs.Collect.{InlineReady}

-- ---- nothing is resolved yet

pub none_resolved : (spec : List ℕ) (l : ParametersSpec) (cells area : List ℕ) → Prepared spec l → Resolved (parameters_in spec l.params) cells area [] (replicate 64 0) (replicate 128 0) 0
none_resolved spec l cells area list =
    resolved_none (parameters_in spec l.params) cells area (replicate 64 0) (replicate 128 0) (length-replicate {A = ℕ} 64 0) (length-replicate {A = ℕ} 128 0)
    (λ k below. get_or-replicate {A = ℕ} 64 k 0 0 (omega (arith, few_list spec l cells area list)))

-- ---- runs of pairs, by index

pub run_listed : {X : Type 0} (f : Pair → X) (cells : List ℕ) (from n : ℕ) → map f (pairs_at cells from n) ≡ listed (λ k. f (read_pair (drop (from + 4 * k) cells))) 0 n
unfolding pair_width
run_listed f cells from n =
    each_map pair_width read_pair f n (drop from cells) ∙ ap (λ m. read_each 4 (λ l. f (read_pair l)) n (drop m cells)) from_first ∙ pairs_listed (λ l. f (read_pair l)) cells from 0 n
  where
    from_first : from ≡ from + 4 * 0
    from_first = omega arith

-- ---- a name that is well formed, and where the names begin

name_text : (area : List ℕ) (v : Value) → well_formed_name area v ≡ true → eqb v.kind call_text ≡ true
unfolding well_formed_name is_text
name_text area v e = and_left (eqb v.kind call_text) (inside area v.payload && leb 1 (size_of v.payload) && leb (size_of v.payload) 64) e

pub named_near : (h : Head) → Few 64 h → named_from h ≤ 1024
unfolding named_from head_width value_width
named_near h few = omega (arith, few.few_p)

module _ (cells area : List ℕ) (h : Head) (read : h ≡ read_head cells) (form : ask_form 64 cells area ≡ fine) where
  nine : lengths_right 64 cells ≡ true
  nine = form_lengths 64 cells area form

  ten : kinds_right (read_call cells) ≡ true
  ten = form_kinds 64 cells area form

  pub call_few : Few 64 h
  call_few = lengths_few cells h read 64 nine

  -- its written values are all there
  values_within : 6 + 2 * h.p ≤ length cells
  unfolding head_width value_width
  values_within = positionals_within cells h read 64 nine

  -- so the short path has what it needs, where the board passes 14
  pub inline_ready : (board : List ℕ) → 896 ≤ length board → InlineReady cells h board
  inline_ready board long = record { few = call_few; within = values_within; long = long }

  written : (call_in area (read_call cells)).named ≡ written_names area cells h
  unfolding named_at
  written = named_run area cells h read ten ∙ run_listed (named_in area) cells (named_from h) h.n

  -- its written names are all there
  pub named_there : named_from h + 4 * h.n ≤ length cells
  unfolding pair_width
  named_there = named_within cells h read 64 nine

  pub pairs : Pairs area cells (named_from h) h.n
  pairs =
      record {
        few = call_few.few_n;
        near = named_near h call_few;
        within = named_there;
        named = λ k below.
            record {
              near = omega (arith, named_near h call_few, call_few.few_n);
              text = name_text area (pair_at cells (named_from h + 4 * k)) (name_formed cells area h read form k below);
              inside = name_inside_lem area (pair_at cells (named_from h + 4 * k)) (name_formed cells area h read form k below);
            };
      }

  -- 13 asks whether the written names differ
  pub names_asked : differ (texts_of (written_names area cells h)) ≡ names_differ area (read_call cells)
  unfolding texts_of
  names_asked =
      ap (λ vs. differ (texts_of vs)) (sym written ∙ named_run area cells h read ten)
      ∙ ap differ (map_map (named_in area) (λ v. v.name) (pairs_at cells (named_from h) h.n))
      ∙ sym (names_by cells h read area)

  pub none_written : h.n ≡ 0 → names_differ area (read_call cells) ≡ true
  unfolding texts_of
  none_written e = sym names_asked ∙ ap (λ n. differ (texts_of (listed (λ k. named_at area cells (named_from h + 4 * k)) 0 n))) e

  entries : entries_of (call_in area (read_call cells)).double ≡ entries_in area cells (entries_from h) 0 h.d
  unfolding entry_at
  entries = entries_run area cells h read ten ∙ run_listed (entry_in area) cells (entries_from h) h.d

  pub keys_formed : (k : ℕ) → k < h.d → well_formed_key area (pair_at cells (entries_from h + 4 * k)) ≡ true
  unfolding pair_width
  keys_formed k below =
      entry_key area cells (entries_from h + 4 * k)
      (ap (well_formed_entry area) (sym (each_at pair_width read_pair cells (entries_from h) h.d k any_pair below))
      ∙ all_at (well_formed_entry area) (pairs_at cells (entries_from h) h.d) k any_pair (rw (each_length pair_width read_pair h.d (drop (entries_from h) cells)) below)
      (formed_entries cells h read 64 nine area (form_parts 64 cells area form)).formed)
    where
      any_pair : Pair
      any_pair = read_pair []

  long : length (positionals_of (call_in area (read_call cells))) ≡ h.p + h.s
  long = positionals_length area cells h read ten

  values : (k : ℕ) → k < length (positionals_of (call_in area (read_call cells))) → get_or (positionals_of (call_in area (read_call cells))) k no_value ≡ positional_at cells h k
  unfolding positional_at pair_at
  values k below = positional_at_lem area cells h read ten 64 nine k no_value (rw long at below)

  pub call_ready : (spec : List ℕ) (l : ParametersSpec) → Prepared spec l → (next : ℕ) → next ≡ min (h.p + h.s) l.indices.num_positional → CallReady spec l cells area h next (call_of cells area)
  unfolding call_of
  call_ready spec l list next upto =
      record {
        list = list;
        few = call_few;
        star = star_passes_lem area cells h read ten;
        double = double_passes_lem area cells h read ten;
        written = written;
        pairs = pairs;
        entries = entries;
        keys_formed = keys_formed;
        long = long;
        values = values;
        upto = upto ∙ ap₂ min (sym long) list.is_list.positional;
      }
