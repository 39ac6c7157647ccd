-- Number 8 is retired, all of it (02, §8; specs/Retired): the laws of LawsRetired put together.
-- Assumes nothing.
use mathlib.Core.Path.{sym, ap, ◌∙◌}
use mathlib.Core.Bool.{false≢true}
use Prim.Native.Nat.{ℕ}
use Rattle.rules.specs.ParameterQuestions.{ask_parameters}
use Rattle.rules.specs.Retired.{EightRetired}
use Rattle.rules.proofs.LawsNumbers.{number_by}
use Rattle.rules.proofs.LawsRetired.{other, other_line, needless, list_other, printed, collected, filled, names, values, arguments, unnamed, chosen, input_other}

pub eight_retired : (A B : ℕ) → EightRetired A B
eight_retired A B =
    record {
      needless = needless A;
      built = λ cells area d e. false≢true (number_by other (ask_parameters A cells area) 8 d (list_other A cells area) e);
      printed = printed A;
      collected = collected A B;
      filled = filled A B;
      names = names A B;
      values = values A B;
      length = arguments B;
      unnamed = unnamed B;
      chosen = chosen A B;
      judged = λ input at e. false≢true (sym (ap other_line e) ∙ input_other A B input);
      bound = λ input d e. collected A B _ _ _ _ _ d e;
    }
