-- Laws of records: what an encoder wrote, its reader reads back. First runs of equal things, then values, pairs and steps, then the
-- two records.
-- Assumes nothing.
use mathlib.Core.Path.{◌≡◌, refl, sym, ap, ap₂, ◌∙◌}
use mathlib.Core.List.{List, [], ◌∷◌, ◌++◌, append_assoc, append-nil}
use Prim.Native.Nat.{ℕ, suc, ◌+◌, ◌*◌, ◌-◌, ◌/◌}
use native.Mathlib.Nat.{mul-suc}
use native.Mathlib.Omega.{arith}
use lib.ListN.{length, drop, length-append}
use lib.Seq.{drop_at}
use Rattle.rules.specs.Cells.{read_each, write_each}
use Rattle.rules.specs.Value.{Value, value_width, value_cells, read_value}
use Rattle.rules.specs.ParameterRecord.{Step, ParameterRecord, step_width, step_cells, read_step, parameter_length, step_count, read_parameters, encode_parameters}
use Rattle.rules.specs.CallRecord.{Pair, CallRecord, Head, pair_width, pair_cells, read_pair, head_width, read_head, call_length, read_call, encode_call}

-- ---- runs of equal things

module _ {X : Type 0} (width : ℕ) (read : List ℕ → X) (write : X → List ℕ) (wide : (x : X) → length (write x) ≡ width) where
  pub length_write_each : (xs : List X) → length (write_each write xs) ≡ width * length xs
  length_write_each [] = omega arith
  length_write_each (x ∷ xs) =
      length-append (write x) (write_each write xs) ∙ ap₂ (λ a b. a + b) (wide x) (length_write_each xs) ∙ sum (width * length xs) ∙ sym (mul-suc width (length xs))
    where
      sum : (n : ℕ) → width + n ≡ n + width
      sum n = omega arith

  pub drop_write_each : (xs : List X) (rest : List ℕ) → drop (width * length xs) (write_each write xs ++ rest) ≡ rest
  drop_write_each xs rest = drop_at (write_each write xs) rest (width * length xs) (length_write_each xs)

  pub read_each_write_each : ((x : X) (rest : List ℕ) → read (write x ++ rest) ≡ x) → (xs : List X) (rest : List ℕ) → read_each width read (length xs) (write_each write xs ++ rest) ≡ xs
  read_each_write_each back [] rest = refl
  read_each_write_each back (x ∷ xs) rest =
      rw (append_assoc (write x) (write_each write xs) rest, drop_at (write x) (write_each write xs ++ rest) width (wide x))
      (ap₂ {C = List X} (λ y ys. y ∷ ys) (back x (write_each write xs ++ rest)) (read_each_write_each back xs rest))

  pub read_each_whole : ((x : X) (rest : List ℕ) → read (write x ++ rest) ≡ x) → (xs : List X) → read_each width read (length xs) (write_each write xs) ≡ xs
  read_each_whole back xs = ap (read_each width read (length xs)) (sym (append-nil (write_each write xs))) ∙ read_each_write_each back xs []

-- ---- values, pairs, steps

pub value_cells_wide : (v : Value) → length (value_cells v) ≡ value_width
unfolding value_cells value_width
value_cells_wide v = refl

pub read_value_value_cells : (v : Value) (rest : List ℕ) → read_value (value_cells v ++ rest) ≡ v
unfolding read_value value_cells
read_value_value_cells v rest = refl

pub pair_cells_wide : (p : Pair) → length (pair_cells p) ≡ pair_width
unfolding pair_cells pair_width value_cells
pair_cells_wide p = refl

pub read_pair_pair_cells : (p : Pair) (rest : List ℕ) → read_pair (pair_cells p ++ rest) ≡ p
unfolding read_pair pair_cells read_value value_cells value_width
read_pair_pair_cells p rest = refl

pub step_cells_wide : (t : Step) → length (step_cells t) ≡ step_width
unfolding step_cells step_width value_cells
step_cells_wide t = refl

pub read_step_step_cells : (t : Step) (rest : List ℕ) → read_step (step_cells t ++ rest) ≡ t
unfolding read_step step_cells read_value value_cells
read_step_step_cells t rest = refl

-- ---- the call record

-- the head of an encoded call
unfoldable pub head_of : CallRecord → Head
head_of r =
    record {
      p = length r.positionals;
      n = length r.named;
      star_kind = r.star_kind;
      s = length r.items;
      double_kind = r.double_kind;
      d = length r.entries;
    }

pub read_head_encode_call : (r : CallRecord) → read_head (encode_call r) ≡ head_of r
unfolding read_head encode_call head_of
read_head_encode_call r = refl

pub length_encode_call : (r : CallRecord) → length (encode_call r) ≡ call_length (head_of r)
unfolding encode_call call_length head_of head_width
length_encode_call r =
    ap (λ n. suc (suc (suc (suc (suc (suc n)))))) sizes ∙ sum (value_width * length r.positionals) (pair_width * length r.named) (value_width * length r.items) (pair_width * length r.entries)
  where
    sizes : length (write_each value_cells r.positionals ++ (write_each pair_cells r.named ++ (write_each value_cells r.items ++ write_each pair_cells r.entries)))
        ≡ value_width * length r.positionals + (pair_width * length r.named + (value_width * length r.items + pair_width * length r.entries))
    sizes =
        simp (length-append, length_write_each value_width read_value value_cells value_cells_wide, length_write_each pair_width read_pair pair_cells pair_cells_wide)

    sum : (a b c d : ℕ) → suc (suc (suc (suc (suc (suc (a + (b + (c + d)))))))) ≡ 6 + a + b + c + d
    sum a b c d = omega arith

-- what the encoder wrote, the reader reads
pub read_call_encode_call : (r : CallRecord) → read_call (encode_call r) ≡ r
unfolding read_call encode_call head_width read_head
read_call_encode_call r =
    rw (
      drop_write_each value_width read_value value_cells value_cells_wide r.positionals (write_each pair_cells r.named ++ (write_each value_cells r.items ++ write_each pair_cells r.entries)),
      drop_write_each pair_width read_pair pair_cells pair_cells_wide r.named (write_each value_cells r.items ++ write_each pair_cells r.entries),
      drop_write_each value_width read_value value_cells value_cells_wide r.items (write_each pair_cells r.entries),
      read_each_write_each value_width read_value value_cells value_cells_wide read_value_value_cells r.positionals,
      read_each_write_each pair_width read_pair pair_cells pair_cells_wide read_pair_pair_cells r.named,
      read_each_write_each value_width read_value value_cells value_cells_wide read_value_value_cells r.items,
      read_each_whole pair_width read_pair pair_cells pair_cells_wide read_pair_pair_cells r.entries,
    )

-- ---- the parameter record

count_steps : (ts : List Step) → (suc (length (write_each step_cells ts)) - 1) / step_width ≡ length ts
unfolding step_width
count_steps ts = rw (length_write_each 4 read_step step_cells step_cells_wide ts) (omega arith)

pub step_count_encode_parameters : (r : ParameterRecord) → step_count (encode_parameters r) ≡ length r.steps
unfolding step_count encode_parameters
step_count_encode_parameters r = count_steps r.steps

pub length_encode_parameters : (r : ParameterRecord) → length (encode_parameters r) ≡ parameter_length (length r.steps)
unfolding encode_parameters parameter_length step_width
length_encode_parameters r = omega (arith, length_write_each 4 read_step step_cells step_cells_wide r.steps)

pub read_parameters_encode_parameters : (r : ParameterRecord) → read_parameters (encode_parameters r) ≡ r
unfolding read_parameters encode_parameters step_count
read_parameters_encode_parameters r = rw (count_steps r.steps, read_each_whole step_width read_step step_cells step_cells_wide read_step_step_cells r.steps)
