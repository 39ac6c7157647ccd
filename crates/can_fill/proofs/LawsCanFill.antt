-- Laws of can-fill of a call against a prepared list: the written names taken one by one, and the answer by its parts, which are surplus
-- positionals, the names, and what they leave empty.
-- Assumes nothing.
use mathlib.Core.Path.{◌≡◌, sym, ap, subst, ◌∙◌}
use mathlib.Core.Bool.{Bool, true, false, not, ◌&&◌, ◌||◌}
use mathlib.Core.List.{List, ◌∷◌, ◌++◌}
use Prim.Native.Nat.{ℕ, ◌+◌, ◌*◌, ◌-◌, min, ◌≤◌, ◌<◌}
use native.Mathlib.Nat.{zero-add}
use native.Mathlib.Omega.{arith}
use borrow.Author.Tests.{le-leb, lt-leb}
use lib.Dec.{leb}
use Rattle.std.specs.Prelude.{Option}
use Rattle.std.specs.Prelude as std
use Rattle.rules.specs.Listing.{all}
use Rattle.rules.specs.CallRecord.{Head}
use Rattle.rules.specs.Parameters.{Parameter, positional_count, has_args, has_kwargs}
use Rattle.rules.specs.Lookup.{known, find}
use Rattle.rules.specs.CanFill.{filled_twice, left_empty, can_fill}
use Rattle.rules.proofs.LawsListing.{or_neither}
use Rattle.builder.specs.Params.{parameters_in}
use Rattle.builder.specs.Spec.{index_of}
use Rattle.builder.specs.declared.spec.ParametersSpec.{ParametersSpec}
use Rattle.cells.proofs.LawsListed.{listed_next, listed_more}
use Rattle.calls.specs.Head.{named_from}
use Rattle.lookup.specs.Lookup.{finding_of}
use Rattle.findings.specs.Resolved.{named_at}
use Rattle.findings.specs.Resolve.{found_at}
use Rattle.can_fill.specs.CanFill.{bytes_from, written_in, free_for, named_after, FillReady, NamesReady, NamesFilled}
use Rattle.findings.specs.Found.{first_missing}
use Rattle.findings.proofs.LawsAsked.{is_some}
use Rattle.findings.proofs.LawsNames.{any_parameter, listed_split, length_list, few_list, found_is}
use Rattle.can_fill.proofs.LawsFilling.{or-true, Counted, counted_none, counted_more, counted_stop, counted_end, left_first, required_at, there_is, args_there, kwargs_there}

-- ---- the written names, one by one

module _ (spec : List ℕ) (l : ParametersSpec) (cells area : List ℕ) (h : Head) (next : ℕ) (named₀ : List ℕ) (ready : NamesReady spec l cells area h next named₀) where
  abbrev qs : List Parameter
  qs = parameters_in spec l.params

  -- the names before name k
  abbrev before : ℕ → List (List ℕ)
  before k = bytes_from area cells (named_from h) 0 k

  has_kwargs_lem : std.is_some l.indices.kwargs ≡ has_kwargs qs
  has_kwargs_lem = kwargs_there l.indices.kwargs qs ready.call.list.is_list.kwargs

  pub names_none : Counted qs next (before 0) named₀
  names_none = counted_none qs next named₀ (few_list spec l cells area ready.call.list) ready.slots ready.none_named

  module _ (k : ℕ) (below : k < h.n) (named : List ℕ) (so_far : Counted qs next (before k) named) where
    abbrev found : Option ℕ
    found = found_at spec l area cells (named_from h + 4 * k)

    name_found : finding_of found ≡ find qs (named_at area cells (named_from h + 4 * k)).name.bytes
    name_found = found_is spec l cells area ready.call.list (named_from h + 4 * k) (ready.call.names_inside k below)

    cut : written_in area cells h ≡ before k ++ ((named_at area cells (named_from h + 4 * k)).name.bytes ∷ bytes_from area cells (named_from h) (k + 1) (h.n - (k + 1)))
    cut =
        let whole : k + (h.n - k) ≡ h.n = omega arith in
        ap before (sym whole)
        ∙ listed_split (λ j. (named_at area cells (named_from h + 4 * j)).name.bytes) 0 k (h.n - k)
        ∙ ap (λ j. before k ++ bytes_from area cells (named_from h) j (h.n - k)) (zero-add k)
        ∙ ap (λ ns. before k ++ ns) (listed_next (λ j. (named_at area cells (named_from h + 4 * j)).name.bytes) k h.n below)

    pub names_more : free_for found (std.is_some l.indices.kwargs) next named ≡ true → Counted qs next (before (k + 1)) (named_after found named)
    names_more free =
        subst (λ ns. Counted qs next ns (named_after found named)) (sym (listed_more (λ j. (named_at area cells (named_from h + 4 * j)).name.bytes) k))
        (counted_more qs next ready.call.list.apart (few_list spec l cells area ready.call.list) (before k) named so_far (named_at area cells (named_from h + 4 * k)).name.bytes found name_found
        (ap (λ b. free_for found b next named) (sym has_kwargs_lem) ∙ free))

    pub names_stop : free_for found (std.is_some l.indices.kwargs) next named ≡ false → (not (filled_twice qs h.p (written_in area cells h)) && (all (known qs) (written_in area cells h) || has_kwargs qs)) ≡ false
    names_stop taken =
        ap (λ ns. not (filled_twice qs h.p ns) && (all (known qs) ns || has_kwargs qs)) cut
        ∙ counted_stop qs next ready.call.list.apart (few_list spec l cells area ready.call.list) (before k) named so_far (named_at area cells (named_from h + 4 * k)).name.bytes h.p ready.call.list.first ready.upto found name_found
        (ap (λ b. free_for found b next named) (sym has_kwargs_lem) ∙ taken) (bytes_from area cells (named_from h) (k + 1) (h.n - (k + 1)))

  pub names_end : (named : List ℕ) → Counted qs next (written_in area cells h) named → (not (filled_twice qs h.p (written_in area cells h)) && (all (known qs) (written_in area cells h) || has_kwargs qs)) ≡ true
  names_end named all_of = counted_end qs h.p next ready.call.list.first ready.upto (written_in area cells h) named all_of

-- ---- the parts of the answer

module _ (spec : List ℕ) (l : ParametersSpec) (cells area : List ℕ) (h : Head) (ready : FillReady spec l cells area h) where
  abbrev list : List Parameter
  list = parameters_in spec l.params

  abbrev written : List (List ℕ)
  written = written_in area cells h

  has_args_lem : std.is_some l.indices.args ≡ has_args list
  has_args_lem = args_there l.indices.args list ready.list.is_list.args

  -- surplus positionals have *args to go to
  abbrev Room : Type 0
  Room = (leb h.p (positional_count list) || has_args list) ≡ true

  pub room_few : h.p ≤ l.indices.num_positional → Room
  room_few few = ap (λ b. b || has_args list) (le-leb h.p (positional_count list) (omega (arith, ready.list.is_list.positional)))

  pub room_args : std.is_some l.indices.args ≡ true → Room
  room_args there = ap (λ b. leb h.p (positional_count list) || b) (sym has_args_lem ∙ there) ∙ or-true (leb h.p (positional_count list))

  pub no_room : l.indices.num_positional < h.p → std.is_some l.indices.args ≡ false → can_fill list h.p written ≡ false
  unfolding can_fill
  no_room many none =
      ap (λ b. b && not (filled_twice list h.p written) && (all (known list) written || has_kwargs list) && not (left_empty list h.p written))
      (or_neither (leb h.p (positional_count list)) (has_args list) (lt-leb h.p (positional_count list) (omega (arith, ready.list.is_list.positional))) (sym has_args_lem ∙ none))

  module _ (room : Room) (named : List ℕ) (r : Bool) (filled : NamesFilled list h.p written named r) where
    after_names : can_fill list h.p written ≡ (r && not (left_empty list h.p written))
    unfolding can_fill
    after_names =
        ap (λ b. b && not (filled_twice list h.p written) && (all (known list) written || has_kwargs list) && not (left_empty list h.p written)) room
        ∙ ap (λ b. b && not (left_empty list h.p written)) (sym filled.answer)

    pub no_names : r ≡ false → can_fill list h.p written ≡ false
    no_names e = after_names ∙ ap (λ b. b && not (left_empty list h.p written)) e

    pub by_missing : r ≡ true → (next : ℕ) → next ≡ min h.p (positional_count list) → (missing : Option ℕ) → index_of missing ≡ first_missing l.params.codes named next (l.params.len - next) → can_fill list h.p written ≡ not (std.is_some missing)
    by_missing e next upto missing is =
        after_names
        ∙ ap (λ b. b && not (left_empty list h.p written)) e
        ∙ ap not
        (left_first list h.p next ready.list.first upto written named l.params.codes (λ k u. required_at spec l.params k any_parameter (omega (arith, length_list spec l cells area ready.list))) (filled.counts e)
        ∙ ap (λ n. is_some (first_missing l.params.codes named next (n - next))) (length_list spec l cells area ready.list)
        ∙ ap is_some (sym is)
        ∙ sym (there_is missing))
