-- Questions 15 to 24 (01, the questions, binding), in the order in which the Rust's `collect_slow` reports, but that 24 comes directly after the
-- entries (02, §4): 15, 16, 17, 18 and 19, 24, 20 to 22, 23.
use Rattle.std.specs.Prelude.{Bool, true, false, cond, ◌&&◌, ◌||◌, List, [], ◌∷◌, ◌++◌, map, ℕ, suc, length}
use Rattle.rules.specs.Listing.{any, any_from}
use Rattle.rules.specs.Text.{Text, among}
use Rattle.rules.specs.Value.{Value}
use Rattle.rules.specs.Answer.{Answer, fine, refuse, ◌then◌, ask, name, count, count_and_name, spec_area, call_area, part_of}
use Rattle.rules.specs.CallRecord.{Call, Named, Entry, Key, word, number, word_of, Star, no_star, iterable, not_iterable, Double, no_double, dictionary, not_dictionary, entries_of, positionals_of, named_of}
use Rattle.rules.specs.Parameters.{Parameter, Style, pos_only, pos_or_named, named_only, no_more, is_required, has_args, has_kwargs}
use Rattle.rules.specs.Lookup.{names}
use Rattle.rules.specs.Placement.{Slot, is_unfilled, from_p, place, star_remainder, named_remainder}

-- 15: whatever is given to * can be iterated
abbrev pub star_passes : Star → Bool
star_passes no_star = true
star_passes (iterable vs) = true
star_passes not_iterable = false

-- 17: whatever is given to ** is a dictionary
abbrev pub double_passes : Double → Bool
double_passes no_double = true
double_passes (dictionary es) = true
double_passes not_dictionary = false

-- the names of some named values
unfoldable pub texts_of : List Named → List Text
texts_of vs = map (λ v. v.name) vs

-- is parameter q named by one of the named values?
unfoldable pub named_by : List Named → Parameter → Bool
named_by vs q = any (λ v. names v.name.bytes q) vs

-- 16: no slot that P fills is also named by a written argument. The detail is the name of the first parameter that is
abbrev pub ask_repeats : List Value → List Named → ℕ → List Parameter → Answer
ask_repeats P written i [] = fine
ask_repeats P written i (q ∷ qs) =
    cond (from_p P i q && named_by written q) (refuse 16 (name (part_of spec_area q.name))) (ask_repeats P written (suc i) qs)

-- do these bytes name a slot, from index i on, that is filled from P?
unfoldable pub names_filled : List Value → ℕ → List Parameter → List ℕ → Bool
names_filled P i qs bytes = any_from (λ k q. from_p P k q && names bytes q) i qs

-- one entry of the dictionary, after the named values before it. 18: its key is a text. 19: what it names is still free, a slot neither
-- filled by P nor named before, or a name of the remainder that has not come before. The detail is the key
abbrev pub ask_entry : List Parameter → List Value → List Named → Key → Answer
ask_entry qs P before (word t) =
    cond (names_filled P 0 qs t.bytes || among t.bytes (texts_of before)) (refuse 19 (name (part_of call_area t))) fine
ask_entry qs P before (number n) = ask 18 false

abbrev pub ask_entries : List Parameter → List Value → List Named → List Entry → Answer
ask_entries qs P before [] = fine
ask_entries qs P before (e ∷ es) = ask_entry qs P before e.key then ask_entries qs P (before ++ word_of e.key e.value) es

-- 24: names of no parameter have **kwargs to go to. The detail is how many there are, and the first of them
abbrev pub ask_named_remainder : Bool → List Named → Answer
ask_named_remainder true vs = fine
ask_named_remainder false [] = fine
ask_named_remainder false (v ∷ vs) = refuse 24 (count_and_name (length (v ∷ vs)) (part_of call_area v.name))

-- the number for a missing parameter goes by how it could have been given: 20 by position alone, 22 by name alone, 21 either way
abbrev pub missing : Style → ℕ
missing pos_only = 20
missing pos_or_named = 21
missing named_only = 22
missing no_more = 22

-- 20 to 22: no required parameter's slot is empty, with the parameters beside their slots. The detail is the name of the first that is
abbrev pub ask_required : List Parameter → List Slot → Answer
ask_required [] ss = fine
ask_required (q ∷ qs) [] = fine
ask_required (q ∷ qs) (s ∷ ss) =
    cond (is_required q.kind && is_unfilled s) (refuse (missing q.style) (name (part_of spec_area q.name))) (ask_required qs ss)

-- 23: values past the positional parameters have *args to go to. The detail is how many there are
abbrev pub ask_star_remainder : Bool → List Value → Answer
ask_star_remainder true vs = fine
ask_star_remainder false [] = fine
ask_star_remainder false (v ∷ vs) = refuse 23 (count (length (v ∷ vs)))

-- 15 to 19, which are asked of the arguments as they are given, and then `later`: the star value is iterated before repeats are looked for
abbrev pub ask_given : List Parameter → Call → Answer → Answer
ask_given qs c later =
    ask 15 (star_passes c.star)
    then ask_repeats (positionals_of c) c.named 0 qs
    then ask 17 (double_passes c.double)
    then ask_entries qs (positionals_of c) c.named (entries_of c.double)
    then later

-- 20 to 24, which read P and N alone: an unknown name is reported before a missing parameter, whose name misspelled it may be, and before
-- surplus values (02, §4)
unfoldable pub ask_placed : List Parameter → List Value → List Named → Answer
ask_placed qs P N =
    ask_named_remainder (has_kwargs qs) (named_remainder qs N)
    then ask_required qs (place qs P N)
    then ask_star_remainder (has_args qs) (star_remainder qs P)

-- questions 15 to 24 of a call against a list, in their order
unfoldable pub ask_binding : List Parameter → Call → Answer
ask_binding qs c = ask_given qs c (ask_placed qs (positionals_of c) (named_of c))
