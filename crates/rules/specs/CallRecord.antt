-- The call record (01, cells, texts and records): six cells of counts and kinds, then the written values, the written pairs, the items of the
-- star and the entries of the double star. Its reader and its encoder alone know how many cells a pair takes.
-- 01's own terms defined here: P, the positionals of a call, and N, its named values.
use Rattle.std.specs.Prelude.{cond, List, [], ◌∷◌, ◌++◌, map, ℕ, zero, suc, ◌+◌, ◌*◌, eqb, length, drop, get_or}
use Rattle.rules.specs.Cells.{read_each, write_each}
use Rattle.rules.specs.Text.{Text, text_in}
use Rattle.rules.specs.Value.{Value, value_width, value_cells, read_value, call_text}

-- a name or a key, and a value
pub record Pair : Type 0 where
  pub key : Value
  pub value : Value

pub record CallRecord : Type 0 where
  pub positionals : List Value
  pub named : List Pair
  pub star_kind : ℕ
  pub items : List Value
  pub double_kind : ℕ
  pub entries : List Pair

unfoldable pub pair_width : ℕ
pair_width = 4

unfoldable pub pair_cells : Pair → List ℕ
pair_cells p = value_cells p.key ++ value_cells p.value

unfoldable pub read_pair : List ℕ → Pair
read_pair cells = record { key = read_value cells; value = read_value (drop value_width cells) }

-- the six cells before the values: p, n, star kind, s, double kind, d
unfoldable pub head_width : ℕ
head_width = 6

pub record Head : Type 0 where
  pub p : ℕ
  pub n : ℕ
  pub star_kind : ℕ
  pub s : ℕ
  pub double_kind : ℕ
  pub d : ℕ

unfoldable pub read_head : List ℕ → Head
read_head cells =
    record { p = get_or cells 0 0; n = get_or cells 1 0; star_kind = get_or cells 2 0; s = get_or cells 3 0; double_kind = get_or cells 4 0; d = get_or cells 5 0 }

-- how many cells a record with this head has
unfoldable pub call_length : Head → ℕ
call_length h = head_width + value_width * h.p + pair_width * h.n + value_width * h.s + pair_width * h.d

unfoldable pub read_call : List ℕ → CallRecord
read_call cells =
    let h : Head = read_head cells in
    let after_head : List ℕ = drop head_width cells in
    let after_positionals : List ℕ = drop (value_width * h.p) after_head in
    let after_named : List ℕ = drop (pair_width * h.n) after_positionals in
    let after_items : List ℕ = drop (value_width * h.s) after_named in
    record {
      positionals = read_each value_width read_value h.p after_head;
      named = read_each pair_width read_pair h.n after_positionals;
      star_kind = h.star_kind;
      items = read_each value_width read_value h.s after_named;
      double_kind = h.double_kind;
      entries = read_each pair_width read_pair h.d after_items;
    }

unfoldable pub encode_call : CallRecord → List ℕ
encode_call r =
    length r.positionals ∷ length r.named ∷ r.star_kind ∷ length r.items ∷ r.double_kind ∷ length r.entries ∷
    write_each value_cells r.positionals ++ (write_each pair_cells r.named ++ (write_each value_cells r.items ++ write_each pair_cells r.entries))

-- ---- a call as it is bound

-- a named value: a name, which is a text in the call area, and its value
pub record Named : Type 0 where
  pub name : Text
  pub value : Value

-- a key of a dictionary is a text or a whole number
pub data Key : Type 0 where
  word : Text → Key
  number : ℕ → Key

pub record Entry : Type 0 where
  pub key : Key
  pub value : Value

-- what is given to *: nothing, something that can be iterated with its items, or something that cannot (kinds 0, 1, 2)
pub data Star : Type 0 where
  no_star : Star
  iterable : List Value → Star
  not_iterable : Star

-- what is given to **: nothing, a dictionary with its entries, or something else (kinds 0, 1, 2)
pub data Double : Type 0 where
  no_double : Double
  dictionary : List Entry → Double
  not_dictionary : Double

pub record Call : Type 0 where
  pub positionals : List Value
  pub named : List Named
  pub star : Star
  pub double : Double

unfoldable pub named_in : List ℕ → Pair → Named
named_in area p = record { name = text_in area p.key.payload; value = p.value }

unfoldable pub key_in : List ℕ → Value → Key
key_in area v = cond (eqb v.kind call_text) (word (text_in area v.payload)) (number v.payload)

unfoldable pub entry_in : List ℕ → Pair → Entry
entry_in area p = record { key = key_in area p.key; value = p.value }

abbrev pub star_of : ℕ → List Value → Star
star_of zero vs = no_star
star_of (suc zero) vs = iterable vs
star_of (suc (suc k)) vs = not_iterable

abbrev pub double_of : ℕ → List Entry → Double
double_of zero es = no_double
double_of (suc zero) es = dictionary es
double_of (suc (suc k)) es = not_dictionary

unfoldable pub call_in : List ℕ → CallRecord → Call
call_in area r =
    record {
      positionals = r.positionals;
      named = map (named_in area) r.named;
      star = star_of r.star_kind r.items;
      double = double_of r.double_kind (map (entry_in area) r.entries);
    }

-- ---- P and N

abbrev pub items_of : Star → List Value
items_of no_star = []
items_of (iterable vs) = vs
items_of not_iterable = []

abbrev pub entries_of : Double → List Entry
entries_of no_double = []
entries_of (dictionary es) = es
entries_of not_dictionary = []

-- the named value of an entry whose key is a text; an entry under a whole number names nothing
abbrev pub word_of : Key → Value → List Named
word_of (word t) v = record { name = t; value = v } ∷ []
word_of (number n) v = []

abbrev pub words : List Entry → List Named
words [] = []
words (e ∷ es) = word_of e.key e.value ++ words es

-- P: the positionals as they are written, then the items of the star (Starlark specification, calls)
unfoldable pub positionals_of : Call → List Value
positionals_of c = c.positionals ++ items_of c.star

-- N: the named values as they are written, then the dictionary's (Starlark specification, calls)
unfoldable pub named_of : Call → List Named
named_of c = c.named ++ words (entries_of c.double)
