-- Questions 9 to 14 (01, the questions, call record). B is the number of values that each part of a call may have.
-- Each of 9 to 13 is put to the whole record.
use Rattle.std.specs.Prelude.{Bool, true, false, not, ◌&&◌, List, [], ◌∷◌, map, ℕ, zero, suc, leb, eqb, length}
use Rattle.rules.specs.Listing.{all}
use Rattle.rules.specs.Text.{same_bytes, differ}
use Rattle.rules.specs.Value.{well_formed_argument, well_formed_name, well_formed_key}
use Rattle.rules.specs.Answer.{Answer, ◌then◌, ask}
use Rattle.rules.specs.CallRecord.{Pair, CallRecord, Head, read_head, call_length, read_call, Key, word, number, key_in, named_in}
use Rattle.rules.specs.Board.{board_least}

-- 9: no part has more than B, and the record has just the cells that its counts call for
unfoldable pub lengths_right : ℕ → List ℕ → Bool
lengths_right B cells =
    let h : Head = read_head cells in
    leb h.p B && leb h.n B && leb h.s B && leb h.d B && eqb (length cells) (call_length h)

-- a star's kind is one of three, and only a list or dictionary, kind 1, has anything in it
abbrev pub kind_right : ℕ → ℕ → Bool
kind_right zero count = eqb count 0
kind_right (suc zero) count = true
kind_right (suc (suc zero)) count = eqb count 0
kind_right (suc (suc (suc k))) count = false

-- 10: that holds of both stars
unfoldable pub kinds_right : CallRecord → Bool
kinds_right r = kind_right r.star_kind (length r.items) && kind_right r.double_kind (length r.entries)

unfoldable pub well_formed_pair : List ℕ → Pair → Bool
well_formed_pair area p = well_formed_name area p.key && well_formed_argument area p.value

unfoldable pub well_formed_entry : List ℕ → Pair → Bool
well_formed_entry area p = well_formed_key area p.key && well_formed_argument area p.value

-- 11: everything that the record holds is well formed
unfoldable pub parts_well_formed : List ℕ → CallRecord → Bool
parts_well_formed area r =
    all (well_formed_argument area) r.positionals
    && all (well_formed_pair area) r.named
    && all (well_formed_argument area) r.items
    && all (well_formed_entry area) r.entries

-- keys are equal when both are texts with the same bytes, or both the same whole number
abbrev pub same_key : Key → Key → Bool
same_key (word t) (word u) = same_bytes t.bytes u.bytes
same_key (word t) (number n) = false
same_key (number m) (word u) = false
same_key (number m) (number n) = eqb m n

abbrev pub keys_differ : List Key → Bool
keys_differ [] = true
keys_differ (k ∷ ks) = all (λ l. not (same_key k l)) ks && keys_differ ks

-- 12: no key of the dictionary stands twice
unfoldable pub entries_differ : List ℕ → CallRecord → Bool
entries_differ area r = keys_differ (map (λ p. key_in area p.key) r.entries)

-- 13: no name is written twice (the Rust's `ArgNames::new_check_unique`)
unfoldable pub names_differ : List ℕ → CallRecord → Bool
names_differ area r = differ (map (λ p. (named_in area p).name) r.named)

-- 9 to 11, which can-fill asks too
unfoldable pub ask_form : ℕ → List ℕ → List ℕ → Answer
ask_form B cells area =
    let r : CallRecord = read_call cells in
    ask 9 (lengths_right B cells) then ask 10 (kinds_right r) then ask 11 (parts_well_formed area r)

-- questions 9 to 13 of a call record, in their order
unfoldable pub ask_call : ℕ → List ℕ → List ℕ → Answer
ask_call B cells area =
    let r : CallRecord = read_call cells in
    ask_form B cells area then ask 12 (entries_differ area r) then ask 13 (names_differ area r)

-- 14: the board is long enough for any call (896 cells at A = B = 64)
unfoldable pub ask_board : ℕ → ℕ → List ℕ → Answer
ask_board A B board = ask 14 (leb (board_least A B) (length board))
