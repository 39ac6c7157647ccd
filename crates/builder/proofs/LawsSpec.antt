-- Laws of the builder's steps, in this order: the promise of a step from its answer; the marks; a step that adds a parameter, refused and
-- taken, with the counts and indices after it; 6 and 7 of a plain one, over the columns; the three ways to
-- add; a code refused against the style. Assumes nothing.
use mathlib.Core.Path.{◌≡◌, refl, sym, ap, subst, ◌∙◌}
use mathlib.Core.Bool.{Bool, true, false, cond, false≢true}
use mathlib.Core.List.{List, [], ◌∷◌, ◌++◌, append-nil}
use Rattle.std.specs.Prelude.{Some, None, Ok}
use mathlib.Core.Option.{Option, none, some}
use mathlib.Core.Logic.{◌⊎◌, inl, inr}
use Prim.Native.Nat.{ℕ, ◌+◌, ◌<◌, ◌≤◌}
use native.Mathlib.Nat.{zero-add}
use native.Mathlib.Omega.{arith}
use lib.ListN.{length}
use lib.Dec.{ltb}
use borrow.Author.Tests.{ltb-true}
use Rattle.rules.specs.Answer.{Answer, fine, ask, ◌then◌}
use Rattle.rules.specs.Text.{text_in}
use Rattle.rules.specs.ParameterRecord.{Step as RecordStep}
use Rattle.rules.specs.Parameters.{Style, pos_only, pos_or_named, named_only, no_more, ParameterKind, args, kwargs, adds, slash, bare_star, act, act_of, may_stand, next_style, Parameter, takes_position, comes_before, positional, positional_only, is_args, is_kwargs, added, positional_only_count, positional_count, args_index, kwargs_index}
use Rattle.rules.specs.ParameterQuestions.{name_is_new, ask_step}
use Rattle.builder.specs.declared.params.CurrentParameterStyle.{CurrentParameterStyle}
use Rattle.builder.specs.declared.params.CurrentParameterStyle.TheVariants.{PosOnly, PosOrNamed, NamedOnly, NoMore}
use Rattle.builder.specs.declared.params.Step.{Step}
use Rattle.cells.specs.declared.question.Question.{Question}
use Rattle.cells.specs.declared.question.Question.TheVariants.{OutOfOrder, TooManyParameters}
use Rattle.cells.specs.Question.{refused}
use Rattle.builder.specs.declared.spec.ParametersSpecBuilder.{ParametersSpecBuilder}
use Rattle.builder.specs.Params.{style_of, kind_for, step_of, parameters_in, new_in, ask_adding, Longer}
use Rattle.builder.specs.Spec.{SoFar, Built, Stepping, refused_by, under_style, style_in, list_in, index_of}
use Rattle.rules.proofs.LawsCounts.{step_within}
use Rattle.cells.proofs.LawsListed.{length_listed, tally_snoc, first_snoc, or_first}
use Rattle.builder.proofs.LawsCodes.{may_stand_star, code_8}
use Rattle.builder.proofs.LawsParams.{known_columns}
use Rattle.builder.proofs.LawsAsk.{ask_step_5, ask_step_slash, ask_step_star, ask_step_adds, ask_step_6, ask_step_fine, may_stand_plain, next_style_plain, is_args_plain, is_kwargs_plain, act_code, act_plain, kind_plain}

-- ---- the promise of a step

pub length_parameters_in : (area : List ℕ) (b : ParametersSpecBuilder) → length (list_in area b) ≡ b.params.len
unfolding parameters_in
length_parameters_in area b = length_listed _ 0 b.params.len

module _ (area : List ℕ) (b : ParametersSpecBuilder) (t : RecordStep) where
  pub stepping_refused
      : (q : Question)
      → ask_step 64 area (style_in b) (list_in area b) t ≡ refused q
      → Stepping area b t (refused_by q b)
  stepping_refused q e =
      record {
        answer = sym e;
        refused = λ m p. refl;
        style = λ p. cc;
        list = λ p. cc;
        built = λ h. h;
      }

  pub stepping_fine
      : (b' : ParametersSpecBuilder)
      → ask_step 64 area (style_in b) (list_in area b) t ≡ fine
      → style_in b' ≡ next_style (style_in b) (act t)
      → list_in area b' ≡ list_in area b ++ added area (style_in b) (act t) t.name
      → (Built area b → Built area b')
      → Stepping area b t (record { answer = Ok tt; builder = b' })
  stepping_fine b' e style list built =
      record {
        answer = sym e;
        refused = λ m p. cc;
        style = λ p. style;
        list = λ p. list;
        built = built;
      }

  pub stepping_5 : may_stand (style_in b) (act t) ≡ false → Stepping area b t (refused_by OutOfOrder b)
  stepping_5 e = stepping_refused OutOfOrder (ask_step_5 64 area (style_in b) (list_in area b) t e)

  -- a mark changes the style alone
  stepping_mark
      : (style : CurrentParameterStyle)
      → ask_step 64 area (style_in b) (list_in area b) t ≡ fine
      → style_of style ≡ next_style (style_in b) (act t)
      → added area (style_in b) (act t) t.name ≡ []
      → (SoFar (style_in b) b → SoFar (style_of style) (under_style style b).builder)
      → Stepping area b t (under_style style b)
  stepping_mark style e next nothing sofar =
      stepping_fine (under_style style b).builder e next (rw nothing (sym (append-nil (list_in area b))))
      (λ h.
      record {
        room = h.room;
        positional_only = h.positional_only;
        positional = h.positional;
        within = h.within;
        args = h.args;
        kwargs = h.kwargs;
        sofar = sofar h.sofar;
      })

-- ---- the marks

-- before NamedOnly there is neither *args nor **kwargs, and before NoMore no **kwargs
sofar_named
    : (s : Style) (b : ParametersSpecBuilder)
    → comes_before s named_only ≡ true → SoFar s b → (b.args ≡ None) × (b.kwargs ≡ None)
unfolding comes_before
sofar_named pos_only b m h = (h.2, h.3)
sofar_named pos_or_named b m h = (h.1, h.2)
sofar_named named_only b m h = absurd (false≢true m)
sofar_named no_more b m h = absurd (false≢true m)

sofar_more : (s : Style) (b : ParametersSpecBuilder) → comes_before s no_more ≡ true → SoFar s b → b.kwargs ≡ None
unfolding comes_before
sofar_more pos_only b m h = h.3
sofar_more pos_or_named b m h = h.2
sofar_more named_only b m h = h
sofar_more no_more b m h = absurd (false≢true m)

-- the / mark, after which a name will do as well
pub stepping_slash
    : (area : List ℕ) (b : ParametersSpecBuilder) (t : RecordStep)
    → style_in b ≡ pos_only → act t ≡ slash → Stepping area b t (under_style PosOrNamed b)
unfolding comes_before
stepping_slash area b t s e =
    stepping_mark area b t PosOrNamed
    (ask_step_slash 64 area (style_in b) (list_in area b) t e (rw s))
    (rw e)
    (rw e)
    (rw s (λ h. (h.1, h.2, h.3)))

-- the bare * mark, after which only a name will do
pub stepping_star
    : (area : List ℕ) (b : ParametersSpecBuilder) (t : RecordStep)
    → comes_before (style_in b) named_only ≡ true → act t ≡ bare_star → Stepping area b t (under_style NamedOnly b)
stepping_star area b t s e =
    stepping_mark area b t NamedOnly
    (ask_step_star 64 area (style_in b) (list_in area b) t e s)
    (rw e)
    (rw e)
    (λ h. (sofar_named (style_in b) b s h).1)

-- ---- a step that adds a parameter

module _
    (area : List ℕ) (b : ParametersSpecBuilder) (s : Step) (k : ParameterKind)
    (e : act (step_of s) ≡ adds k) (m : may_stand (style_in b) (adds k) ≡ true) where
  pub adding_6 : 64 ≤ b.params.len → Stepping area b (step_of s) (refused_by TooManyParameters b)
  adding_6 h =
      stepping_refused area b (step_of s) TooManyParameters
      (ask_step_6 64 area (style_in b) (list_in area b) (step_of s) k e m (rw length_parameters_in h))

  -- 6 and 7 are answered well
  adding_asked
      : b.params.len < 64
      → name_is_new area (style_in b) (list_in area b) (adds k) s.name ≡ true
      → ask_step 64 area (style_in b) (list_in area b) (step_of s) ≡ fine
  unfolding step_of
  adding_asked h n = ask_step_fine 64 area (style_in b) (list_in area b) (step_of s) k e m (rw length_parameters_in h) n

  -- the parameter added
  abbrev pub newest : Parameter
  newest = record { kind = k; style = style_in b; name = text_in area s.name }

  module _ (b' : ParametersSpecBuilder) (p : Longer b.params s (style_in b) b'.params) where
    list_newest : list_in area b' ≡ list_in area b ++ newest ∷ []
    list_newest = p.list area ∙ rw e

    pub adding_fine
        : ask_step 64 area (style_in b) (list_in area b) (step_of s) ≡ fine
        → style_in b' ≡ next_style (style_in b) (adds k)
        → (Built area b → Built area b')
        → Stepping area b (step_of s) (record { answer = Ok tt; builder = b' })
    unfolding step_of
    adding_fine asked style built =
        stepping_fine area b (step_of s) b'
        asked
        (rw e style)
        (list_newest ∙ rw e)
        built

    -- counts and indices that took in the newest parameter are those of the longer list
    pub built_newest
        : b.params.len < 64
        → b'.positional_only ≡ cond (positional_only newest) (b.positional_only + 1) b.positional_only
        → b'.positional ≡ cond (positional newest) (b.positional + 1) b.positional
        → index_of b'.args ≡ or_first (index_of b.args) (is_args k) b.params.len
        → index_of b'.kwargs ≡ or_first (index_of b.kwargs) (is_kwargs k) b.params.len
        → SoFar (style_in b') b'
        → Built area b
        → Built area b'
    unfolding positional_only_count positional_count args_index kwargs_index
    built_newest h only all star double sofar built =
        let only_counts : b'.positional_only ≡ positional_only_count (list_in area b') = only ∙ rw (list_newest, tally_snoc, ← built.positional_only) in
        let all_counts : b'.positional ≡ positional_count (list_in area b') = all ∙ rw (list_newest, tally_snoc, ← built.positional) in
        record {
          room = rw p.len (omega arith);
          positional_only = only_counts;
          positional = all_counts;
          within = rw (only_counts, all_counts, list_newest) (step_within area (list_in area b) (style_in b) (adds k) s.name (rw (← built.positional_only, ← built.positional) built.within));
          args = star ∙ rw (list_newest, first_snoc, ← built.args, length_parameters_in, zero-add);
          kwargs = double ∙ rw (list_newest, first_snoc, ← built.kwargs, length_parameters_in, zero-add);
          sofar = sofar;
        }

-- ---- 6 and 7 of a plain parameter, over the columns

pub asked_plain
    : (area : List ℕ) (b : ParametersSpecBuilder) (s : Step)
    → 1 ≤ s.code
    → s.code < 4
    → comes_before (style_in b) no_more ≡ true
    → ask_step 64 area (style_in b) (list_in area b) (step_of s)
    ≡ ask_adding area b.params (style_in b) s.name
unfolding step_of
asked_plain area b s l u m =
    let pk = kind_plain s l u in
    ask_step_adds 64 area (style_in b) (list_in area b) (step_of s) (kind_for (act (step_of s))) (act_plain s l u)
    (may_stand_plain (style_in b) (kind_for (act (step_of s))) pk ∙ m)
    ∙ rw (length_parameters_in, pk, known_columns)

-- where they are answered well there is room
pub asked_room
    : (area : List ℕ) (b : ParametersSpecBuilder) (s : Step)
    → ask_adding area b.params (style_in b) s.name ≡ fine
    → b.params.len < 64
asked_room area b s e = go (ltb b.params.len 64) refl (ask 7 (new_in area b.params (style_in b) s.name)) e
  where
    go : (t : Bool) → ltb b.params.len 64 ≡ t → (q : Answer) → (ask 6 t then q) ≡ fine → b.params.len < 64
    go true h q f = ltb-true b.params.len 64 h
    go false h q f = cc

-- ---- the three ways to add

-- under a style a plain parameter moves the counts on by one, as far as the style lets it be positional
add_sofar
    : (s : Style) (b b' : ParametersSpecBuilder)
    → comes_before s no_more ≡ true
    → b'.params.len ≡ b.params.len + 1
    → b'.positional_only ≡ cond (comes_before s pos_or_named) (b.params.len + 1) b.positional_only
    → b'.positional ≡ cond (takes_position s) (b.params.len + 1) b.positional
    → b'.args ≡ b.args
    → b'.kwargs ≡ b.kwargs
    → SoFar s b
    → (b'.positional_only ≡ cond (comes_before s pos_or_named) (b.positional_only + 1) b.positional_only)
    × (b'.positional ≡ cond (takes_position s) (b.positional + 1) b.positional)
    × SoFar s b'
unfolding comes_before
add_sofar pos_only b b' m l only all star double h =
    (omega arith, omega arith, (omega arith, omega arith, star ∙ h.2, double ∙ h.3))
add_sofar pos_or_named b b' m l only all star double h = (only, omega arith, (omega arith, star ∙ h.1, double ∙ h.2))
add_sofar named_only b b' m l only all star double h = (only, all, double ∙ h)
add_sofar no_more b b' m l only all star double h = absurd (false≢true m)

-- an index that a parameter of another kind leaves as it is
or_first_false : (o : Option ℕ) (i : ℕ) → o ≡ or_first o false i
or_first_false none i = refl
or_first_false (some j) i = refl

-- a plain parameter, under the style that stays
pub adding_plain
    : (area : List ℕ) (b b' : ParametersSpecBuilder) (s : Step)
    → 1 ≤ s.code
    → s.code < 4
    → comes_before (style_in b) no_more ≡ true
    → ask_adding area b.params (style_in b) s.name ≡ fine
    → Longer b.params s (style_in b) b'.params
    → b'.positional_only ≡ cond (comes_before (style_in b) pos_or_named) (b.params.len + 1) b.positional_only
    → b'.positional ≡ cond (takes_position (style_in b)) (b.params.len + 1) b.positional
    → b'.current_style ≡ b.current_style
    → b'.args ≡ b.args
    → b'.kwargs ≡ b.kwargs
    → Stepping area b (step_of s) (record { answer = Ok tt; builder = b' })
unfolding positional_only positional
adding_plain area b b' s l u m asked p only all same star double =
    let k = kind_for (act (step_of s)) in
    let e = act_plain s l u in
    let pk = kind_plain s l u in
    let stands : may_stand (style_in b) (adds k) ≡ true = may_stand_plain (style_in b) k pk ∙ m in
    adding_fine area b s k e stands b' p (asked_plain area b s l u m ∙ asked) (ap style_of same ∙ next_style_plain (style_in b) k pk)
    (λ was.
    let so = add_sofar (style_in b) b b' m p.len only all star double was.sofar in
    built_newest area b s k e stands b' p (asked_room area b s asked)
    (rw pk so.0)
    (rw pk so.1)
    (rw (is_args_plain k pk) (ap index_of star ∙ or_first_false (index_of b.args) b.params.len))
    (rw (is_kwargs_plain k pk) (ap index_of double ∙ or_first_false (index_of b.kwargs) b.params.len))
    (subst (λ (st : Style). SoFar st b') (sym (ap style_of same)) so.2)
    was)

-- *args, after which no parameter is positional
pub adding_args
    : (area : List ℕ) (b b' : ParametersSpecBuilder) (s : Step)
    → act (step_of s) ≡ adds args
    → comes_before (style_in b) named_only ≡ true
    → b.params.len < 64
    → Longer b.params s (style_in b) b'.params
    → b'.positional_only ≡ b.positional_only
    → b'.positional ≡ b.positional
    → style_in b' ≡ named_only
    → b'.args ≡ Some b.params.len
    → b'.kwargs ≡ b.kwargs
    → Stepping area b (step_of s) (record { answer = Ok tt; builder = b' })
unfolding positional_only positional
adding_args area b b' s e m h p only all style star double =
    adding_fine area b s args e m b' p (adding_asked area b s args e m h refl) style
    (λ was.
    let so = sofar_named (style_in b) b m was.sofar in
    built_newest area b s args e m b' p h only all
    (rw (star, so.0))
    (ap index_of double ∙ or_first_false (index_of b.kwargs) b.params.len)
    (rw style (double ∙ so.1))
    was)

-- **kwargs, after which there is no parameter
pub adding_kwargs
    : (area : List ℕ) (b b' : ParametersSpecBuilder) (s : Step)
    → act (step_of s) ≡ adds kwargs
    → comes_before (style_in b) no_more ≡ true
    → b.params.len < 64
    → Longer b.params s (style_in b) b'.params
    → b'.positional_only ≡ b.positional_only
    → b'.positional ≡ b.positional
    → style_in b' ≡ no_more
    → b'.args ≡ b.args
    → b'.kwargs ≡ Some b.params.len
    → Stepping area b (step_of s) (record { answer = Ok tt; builder = b' })
unfolding positional_only positional
adding_kwargs area b b' s e m h p only all style star double =
    adding_fine area b s kwargs e m b' p (adding_asked area b s kwargs e m h refl) style
    (λ was.
    built_newest area b s kwargs e m b' p h only all
    (ap index_of star ∙ or_first_false (index_of b.args) b.params.len)
    (rw (double, sofar_more (style_in b) b m was.sofar))
    (rw style tt)
    was)

-- ---- a code judged against the style

module _ (area : List ℕ) (b : ParametersSpecBuilder) (s : Step) where
  pub refused_code
      : (n : ℕ) (style : CurrentParameterStyle)
      → s.code ≡ n → b.current_style ≡ style
      → may_stand (style_of style) (act_of n (step_of s).default) ≡ false
      → Stepping area b (step_of s) (refused_by OutOfOrder b)
  refused_code n style e d m = stepping_5 area b (step_of s) (rw (act_code s n e, d) m)

  pub refused_plain : 1 ≤ s.code → s.code < 4 → b.current_style ≡ NoMore → Stepping area b (step_of s) (refused_by OutOfOrder b)
  unfolding comes_before
  refused_plain l u d =
      stepping_5 area b (step_of s)
      (rw (act_plain s l u) (may_stand_plain (style_in b) (kind_for (act (step_of s))) (kind_plain s l u) ∙ rw d))

  pub refused_star
      : (style : CurrentParameterStyle)
      → 5 ≤ s.code → s.code < 7 → b.current_style ≡ style
      → comes_before (style_of style) named_only ≡ false
      → Stepping area b (step_of s) (refused_by OutOfOrder b)
  refused_star style l u d m =
      stepping_5 area b (step_of s)
      (rw (act_code s s.code refl) (may_stand_star (step_of s).default (style_in b) s.code l u ∙ rw d m))

  pub refused_above : 8 ≤ s.code → Stepping area b (step_of s) (refused_by OutOfOrder b)
  refused_above l =
      stepping_5 area b (step_of s)
      (rw (act_code s s.code refl, code_8 s.code (step_of s).default l))

-- ---- what an arm for several styles says of the style

pub under_first_three
    : (style : CurrentParameterStyle) → (style ≡ PosOnly) ⊎ ((style ≡ PosOrNamed) ⊎ (style ≡ NamedOnly)) → comes_before (style_of style) no_more ≡ true
unfolding comes_before
under_first_three style (inl e) = rw e
under_first_three style (inr (inl e)) = rw e
under_first_three style (inr (inr e)) = rw e

pub under_first_two : (style : CurrentParameterStyle) → (style ≡ PosOnly) ⊎ (style ≡ PosOrNamed) → comes_before (style_of style) named_only ≡ true
unfolding comes_before
under_first_two style (inl e) = rw e
under_first_two style (inr e) = rw e

pub under_last_two : (style : CurrentParameterStyle) → (style ≡ NamedOnly) ⊎ (style ≡ NoMore) → comes_before (style_of style) named_only ≡ false
unfolding comes_before
under_last_two style (inl e) = rw e
under_last_two style (inr e) = rw e
