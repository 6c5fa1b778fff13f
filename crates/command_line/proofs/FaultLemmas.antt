-- Why the words are no line.
use Rattle.std.proofs.Common.{◌≡◌, ⊎_elim, refl, subst, sym, Result, Ok, Err, IfErr, IsErrAnd}
use Rattle.clap.specs.Words.{HasKind, Kinds, kind_of}
use Rattle.clap.specs.declared.error.Error.{Error}
use Rattle.clap.specs.declared.error.kind.ErrorKind.{ErrorKind}
use Rattle.clap.specs.declared.error.kind.ErrorKind.TheVariants.{OutOfMemory}
use Rattle.command_line.specs.CommandLine.{IsFaultOf, fault_by}
use Rattle.command_line.specs.declared.line.LineFault.{LineFault}

-- an error of memory, or of one of the kinds, as a fault
fault_by-is_fault : (kinds : Kinds) (error : Error) → HasKind kinds error → IsFaultOf kinds (fault_by (kind_of error) error)
fault_by-is_fault kinds error has = go (kind_of error) refl
  where
    go : (kind : ErrorKind) → kind_of error ≡ kind → IsFaultOf kinds (fault_by kind error)
    go OutOfMemory is = tt
    go kind is = ⊎_elim (λ memory. cc) (λ among. among) has

-- the same, where `?` passes the error up
pub passed_up : {T : Type 0} (kinds : Kinds) (r : Result T LineFault) (error : Error) → HasKind kinds error
    → IsErrAnd r (λ fault. fault ≡ fault_by (kind_of error) error) → IfErr r (IsFaultOf kinds)
passed_up kinds (Ok x) error has is = absurd is
passed_up kinds (Err fault) error has is = subst (IsFaultOf kinds) (sym is) (fault_by-is_fault kinds error has)
