-- Questions 9 to 13 (01, the questions, call record), as the code asks them, by the head of the record and the indices at which its
-- parts begin. In this order: counts that are few, as bounds; what is well formed, part by part; each question as one
-- of the head or of runs of cells; the bounds that 9 gives; what 11 leaves to 12 and 13; the answers of `ask_form` and `ask_call`
-- taken apart where they are fine; and 13 after the others. `h` is the head that was read. Assumes nothing.
use mathlib.Core.Path.{◌≡◌, refl, sym, ap, ◌∙◌}
use mathlib.Core.Bool.{true, ◌&&◌}
use mathlib.Core.List.{List}
use Prim.Native.Nat.{ℕ, ◌+◌, ◌*◌, ◌≤◌}
use native.Mathlib.Omega.{arith}
use lib.Dec.{leb, eqb}
use lib.ListN.{length}
use lib.Seq.{drop-drop}
use borrow.Author.Tests.{leb-true, eqb-true}
use Rattle.rules.specs.Listing.{all}
use Rattle.rules.specs.Text.{differ}
use Rattle.rules.specs.Value.{value_width, well_formed_argument, well_formed_name, well_formed_key}
use Rattle.rules.specs.Answer.{Answer, fine, refuse, ◌then◌, ask}
use Rattle.rules.specs.CallRecord.{Head, CallRecord, head_width, pair_width, read_head, call_length, read_call}
use Rattle.rules.specs.CallQuestions.{lengths_right, kind_right, kinds_right, well_formed_pair, well_formed_entry, parts_well_formed, keys_differ, entries_differ, names_differ, ask_form, ask_call}
use Rattle.rules.proofs.LawsListing.{and_left, and_right}
use Rattle.rules.proofs.LawsAnswer.{then_left, then_right, ask_true}
use Rattle.calls.specs.Head.{at_most, Few, named_from, items_from, entries_from}
use Rattle.calls.specs.Keys.{ask_keys}
use Rattle.calls.specs.Runs.{values_at, pairs_at, run_formed, pairs_formed, Formed, keys_at, names_at}
use Rattle.calls.proofs.LawsEach.{each_length}
use Rattle.calls.proofs.LawsKeys.{written_formed, written_keys}

-- ---- the counts

pub few_bounds : (B : ℕ) (h : Head) → at_most B h ≡ true → Few B h
unfolding at_most
few_bounds B h e =
    let pns = and_left (leb h.p B && leb h.n B && leb h.s B) (leb h.d B) e in
    let pn = and_left (leb h.p B && leb h.n B) (leb h.s B) pns in
    record {
      few_p = leb-true h.p B (and_left (leb h.p B) (leb h.n B) pn);
      few_n = leb-true h.n B (and_right (leb h.p B) (leb h.n B) pn);
      few_s = leb-true h.s B (and_right (leb h.p B && leb h.n B) (leb h.s B) pns);
      few_d = leb-true h.d B (and_right (leb h.p B && leb h.n B && leb h.s B) (leb h.d B) e);
    }

-- ---- the parts

-- what is well formed as a whole is so in each part
module _ (area : List ℕ) (r : CallRecord) (e : parts_well_formed area r ≡ true) where
  before_entries : (all (well_formed_argument area) r.positionals && all (well_formed_pair area) r.named && all (well_formed_argument area) r.items) ≡ true
  unfolding parts_well_formed
  before_entries =
      and_left (all (well_formed_argument area) r.positionals && all (well_formed_pair area) r.named && all (well_formed_argument area) r.items) (all (well_formed_entry area) r.entries) e

  pub parts_entries : all (well_formed_entry area) r.entries ≡ true
  unfolding parts_well_formed
  parts_entries =
      and_right (all (well_formed_argument area) r.positionals && all (well_formed_pair area) r.named && all (well_formed_argument area) r.items) (all (well_formed_entry area) r.entries) e

  before_items : (all (well_formed_argument area) r.positionals && all (well_formed_pair area) r.named) ≡ true
  before_items =
      and_left (all (well_formed_argument area) r.positionals && all (well_formed_pair area) r.named) (all (well_formed_argument area) r.items) before_entries

  pub parts_items : all (well_formed_argument area) r.items ≡ true
  parts_items =
      and_right (all (well_formed_argument area) r.positionals && all (well_formed_pair area) r.named) (all (well_formed_argument area) r.items) before_entries

  pub parts_named : all (well_formed_pair area) r.named ≡ true
  parts_named = and_right (all (well_formed_argument area) r.positionals) (all (well_formed_pair area) r.named) before_items

  pub parts_positionals : all (well_formed_argument area) r.positionals ≡ true
  parts_positionals = and_left (all (well_formed_argument area) r.positionals) (all (well_formed_pair area) r.named) before_items

-- ---- the questions, by the head that was read

module _ (cells : List ℕ) (h : Head) (read : h ≡ read_head cells) where
  pub lengths_by : (B : ℕ) → lengths_right B cells ≡ (at_most B h && eqb (length cells) (call_length h))
  unfolding lengths_right at_most
  lengths_by B = ap (λ (x : Head). at_most B x && eqb (length cells) (call_length x)) (sym read)

  pub call_positionals : (read_call cells).positionals ≡ values_at cells head_width h.p
  unfolding read_call
  call_positionals = rw read

  pub call_named : (read_call cells).named ≡ pairs_at cells (named_from h) h.n
  unfolding read_call named_from
  call_named = rw (read, drop-drop)

  pub call_items : (read_call cells).items ≡ values_at cells (items_from h) h.s
  unfolding read_call items_from named_from
  call_items = simp (read, drop-drop)

  pub call_entries : (read_call cells).entries ≡ pairs_at cells (entries_from h) h.d
  unfolding read_call entries_from items_from named_from
  call_entries = simp (read, drop-drop)

  pub kinds_by : kinds_right (read_call cells) ≡ (kind_right h.star_kind h.s && kind_right h.double_kind h.d)
  unfolding kinds_right read_call
  kinds_by = simp (read, each_length)

  pub parts_by : (area : List ℕ) → parts_well_formed area (read_call cells)
      ≡ (run_formed (well_formed_argument area) cells head_width value_width h.p
      && pairs_formed (well_formed_name area) area cells (named_from h) h.n
      && run_formed (well_formed_argument area) cells (items_from h) value_width h.s
      && pairs_formed (well_formed_key area) area cells (entries_from h) h.d)
  unfolding parts_well_formed well_formed_pair well_formed_entry
  parts_by area = rw (call_positionals, call_named, call_items, call_entries)

  pub entries_by : (area : List ℕ) → entries_differ area (read_call cells) ≡ keys_differ (keys_at area cells (entries_from h) h.d)
  unfolding entries_differ
  entries_by area = rw call_entries

  pub names_by : (area : List ℕ) → names_differ area (read_call cells) ≡ differ (names_at area cells (named_from h) h.n)
  unfolding names_differ
  names_by area = rw call_named

  -- ---- what 9 gives

  module _ (B : ℕ) (nine : lengths_right B cells ≡ true) where
    pub lengths_at_most : at_most B h ≡ true
    lengths_at_most = and_left (at_most B h) (eqb (length cells) (call_length h)) (sym (lengths_by B) ∙ nine)

    pub lengths_few : Few B h
    lengths_few = few_bounds B h lengths_at_most

    pub lengths_length : length cells ≡ call_length h
    lengths_length = eqb-true (length cells) (call_length h) (and_right (at_most B h) (eqb (length cells) (call_length h)) (sym (lengths_by B) ∙ nine))

    -- every part lies inside the cells
    pub positionals_within : head_width + value_width * h.p ≤ length cells
    unfolding call_length head_width value_width pair_width
    positionals_within = omega (arith, lengths_length)

    pub named_within : named_from h + pair_width * h.n ≤ length cells
    unfolding named_from call_length head_width value_width pair_width
    named_within = omega (arith, lengths_length)

    pub items_within : items_from h + value_width * h.s ≤ length cells
    unfolding items_from named_from call_length head_width value_width pair_width
    items_within = omega (arith, lengths_length)

    pub entries_within : entries_from h + pair_width * h.d ≤ length cells
    unfolding entries_from items_from named_from call_length head_width value_width pair_width
    entries_within = omega (arith, lengths_length)

    -- ---- what 11 gives

    module _ (area : List ℕ) (eleven : parts_well_formed area (read_call cells) ≡ true) where
      pub formed_named : Formed (well_formed_pair area) cells (named_from h) h.n
      formed_named = record { within = named_within; formed = rw (← call_named) (parts_named area (read_call cells) eleven) }

      -- 13, as 12 of the written pairs
      pub formed_names : Formed (well_formed_entry area) cells (named_from h) h.n
      formed_names = written_formed area cells (named_from h) h.n formed_named

      pub names_as_keys : names_differ area (read_call cells) ≡ keys_differ (keys_at area cells (named_from h) h.n)
      names_as_keys = names_by area ∙ sym (written_keys area cells (named_from h) h.n formed_named)

      pub formed_entries : Formed (well_formed_entry area) cells (entries_from h) h.d
      formed_entries = record { within = entries_within; formed = rw (← call_entries) (parts_entries area (read_call cells) eleven) }

-- ---- 9 to 11 as one answer

module _ (B : ℕ) (cells area : List ℕ) (e : ask_form B cells area ≡ fine) where
  pub form_lengths : lengths_right B cells ≡ true
  unfolding ask_form
  form_lengths =
      ask_true 9 (lengths_right B cells)
      (then_left (ask 9 (lengths_right B cells)) (ask 10 (kinds_right (read_call cells)) then ask 11 (parts_well_formed area (read_call cells))) e)

  after_lengths : (ask 10 (kinds_right (read_call cells)) then ask 11 (parts_well_formed area (read_call cells))) ≡ fine
  unfolding ask_form
  after_lengths =
      then_right (ask 9 (lengths_right B cells)) (ask 10 (kinds_right (read_call cells)) then ask 11 (parts_well_formed area (read_call cells))) e

  pub form_kinds : kinds_right (read_call cells) ≡ true
  form_kinds =
      ask_true 10 (kinds_right (read_call cells))
      (then_left (ask 10 (kinds_right (read_call cells))) (ask 11 (parts_well_formed area (read_call cells))) after_lengths)

  pub form_parts : parts_well_formed area (read_call cells) ≡ true
  form_parts =
      ask_true 11 (parts_well_formed area (read_call cells))
      (then_right (ask 10 (kinds_right (read_call cells))) (ask 11 (parts_well_formed area (read_call cells))) after_lengths)

-- ---- 9 to 13 as one answer

module _ (B : ℕ) (cells area : List ℕ) (e : ask_call B cells area ≡ fine) where
  pub call_form : ask_form B cells area ≡ fine
  unfolding ask_call
  call_form =
      then_left (ask_form B cells area) (ask 12 (entries_differ area (read_call cells)) then ask 13 (names_differ area (read_call cells))) e

-- ---- 13 after 9 to 12

in_turn : (a b d : Answer) → ((a then b) then d) ≡ (a then b then d)
in_turn (refuse n x) b d = refl
in_turn fine b d = refl

pub call_in_turn : (B : ℕ) (cells area : List ℕ) → ask_call B cells area ≡ (ask_keys B cells area then ask 13 (names_differ area (read_call cells)))
unfolding ask_call ask_keys
call_in_turn B cells area = sym (in_turn (ask_form B cells area) (ask 12 (entries_differ area (read_call cells))) (ask 13 (names_differ area (read_call cells))))

pub keys_form : (B : ℕ) (cells area : List ℕ) → ask_keys B cells area ≡ fine → ask_form B cells area ≡ fine
unfolding ask_keys
keys_form B cells area e = then_left (ask_form B cells area) (ask 12 (entries_differ area (read_call cells))) e
