use Rattle.std.proofs.Common.{◌≡◌, map, refl, string_bytes, subst, true}
use Rattle.clap.specs.Words.{App, HasKind, fault_of, is_simple_and_free}
use Rattle.command_line.specs.CommandLine.{program_app}
use Rattle.command_line.proofs.FaultLemmas.{passed_up}
use Rattle.command_line.proofs.matches.matches_of.Goals as goal

pub returns-in_err-try_get_matches_from-clause-refused : goal.returns-in_err-try_get_matches_from-clause-refused
returns-in_err-try_get_matches_from-clause-refused c =
    let error = c.in_err-try_get_matches_from.field-0.0 in
    let has : HasKind (fault_of program_app (map string_bytes c.args.words.now)) error =
    subst (λ (app : App). is_simple_and_free app ≡ true → HasKind (fault_of app (map string_bytes c.args.words.now)) error)
    c.in_ok-program.ensures.0 c.in_err-try_get_matches_from.ensures.kinds refl in
    passed_up _ _ error has c.from_residual-in_err-try_get_matches_from.ensures.1
