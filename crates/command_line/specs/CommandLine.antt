-- The words that the program takes, and the line that they are.
use Rattle.std.specs.Prelude.{[], ◌∷◌, ◌≡◌, ℕ, ⊤, Bool, if◌then◌else◌, IfOk, IsSomeAnd, List, Option, Result, Some, String, codes, false, option_map, pos}
use Rattle.std.specs.Prelude.{string_bytes, true}
use Rattle.std.specs.Int.{IsInRange}
use Rattle.std.specs.Str.Parse.{IsNumeral, digits_value, without_leading_plus}
use Rattle.std.specs.declared.alloc.AllocError.{AllocError}
use Rattle.std.specs.declared.alloc.Global.{Global}
use Rattle.clap.specs.Words.{App, IsAmong, Kinds, Row, Rule, Text, app_of, first_of}
use Rattle.clap.specs.Words.{found_of, kind_of, new_app, new_rule, rows_of}
use Rattle.clap.specs.Words.{rule_of, with_rule, with_subcommand}
use Rattle.clap.specs.Simple.{on_top}
use Rattle.clap.specs.declared.builder.action.ArgAction.TheVariants.{SetTrue}
use Rattle.clap.specs.declared.builder.arg.Arg.{Arg}
use Rattle.clap.specs.declared.builder.command.Command.{Command}
use Rattle.clap.specs.declared.builder.command.Command.TheViews.{out-Command}
use Rattle.clap.specs.declared.builder.value_parser.ValueParser.TheVariants.{Signed}
use Rattle.clap.specs.declared.error.Error.{Error}
use Rattle.clap.specs.declared.error.kind.ErrorKind.{ErrorKind}
use Rattle.clap.specs.declared.error.kind.ErrorKind.TheVariants.{DisplayHelp, DisplayVersion, OutOfMemory}
use Rattle.clap.specs.declared.parser.matches.ArgMatches.{ArgMatches}
use Rattle.command_line.specs.declared.line.Line.{Line}
use Rattle.command_line.specs.declared.line.Line.TheVariants.{Check, Make, Run, Serve}
use Rattle.command_line.specs.declared.line.LineFault.{LineFault}
use Rattle.command_line.specs.declared.line.LineFault.TheVariants.{Refused, Unread}

-- ---- the command

-- an argument that is known by its place and has to be given
abbrev pub required_rule : Text → Rule
required_rule id = record (new_rule id) { required = true }

-- an argument of a number between these two
abbrev pub ranged_rule : Text → ℕ → ℕ → Rule
ranged_rule id least most = record (new_rule id) { parser = Some (Signed (pos least) (pos most)) }

-- the same, which is known by its place and has to be given
abbrev pub number_rule : Text → ℕ → ℕ → Rule
number_rule id least most = record (ranged_rule id least most) { required = true }

abbrev pub image_rule : Rule
image_rule = required_rule (codes "IMAGE")

abbrev pub batches_rule : Rule
batches_rule = required_rule (codes "BATCHES")

abbrev pub warehouses_rule : Rule
warehouses_rule = number_rule (codes "W") 1 100

abbrev pub customers_rule : Rule
customers_rule = number_rule (codes "C") 1 3000

abbrev pub items_rule : Rule
items_rule = number_rule (codes "I") 1 100000

-- the option `--workers N`, which is 1 where it is left out
abbrev pub workers_rule : Rule
workers_rule = record (ranged_rule (codes "workers") 1 64) {
  long = Some (codes "workers");
  value_names = 1;
  defaults = codes "1" ∷ [];
}

-- the option `--store FILE`
abbrev pub store_rule : Rule
store_rule = record (new_rule (codes "store")) {
  long = Some (codes "store");
  value_names = 1;
}

-- the option `--from SEQ,NEXT,TOKEN`
abbrev pub from_rule : Rule
from_rule = record (new_rule (codes "from")) {
  long = Some (codes "from");
  value_names = 1;
}

-- the flag `--at`
abbrev pub at_rule : Rule
at_rule = record (new_rule (codes "at")) {
  long = Some (codes "at");
  action = Some SetTrue;
}

-- the flag `--stats`
abbrev pub stats_rule : Rule
stats_rule = record (new_rule (codes "stats")) {
  long = Some (codes "stats");
  action = Some SetTrue;
}

-- run IMAGE BATCHES [--workers N] [--store FILE] [--from SEQ,NEXT,TOKEN] [--at] [--stats]
abbrev pub run_app : App
run_app = with_rule (with_rule (with_rule (with_rule (with_rule (with_rule (with_rule (new_app (codes "run")) image_rule) batches_rule)
    workers_rule) store_rule) from_rule) at_rule) stats_rule

-- check IMAGE
abbrev pub check_app : App
check_app = with_rule (new_app (codes "check")) image_rule

-- make W C I
abbrev pub make_app : App
make_app = with_rule (with_rule (with_rule (new_app (codes "make")) warehouses_rule) customers_rule)
    items_rule

-- serve IMAGE [--workers N] [--from SEQ,NEXT,TOKEN] [--stats]
abbrev pub serve_app : App
serve_app = with_rule (with_rule (with_rule (with_rule (new_app (codes "serve")) image_rule) workers_rule) from_rule) stats_rule

-- the program without its subcommands, one of which has to be given; it has a version
abbrev pub bare_app : App
bare_app = on_top (λ shape. record shape { subcommand_required = true; has_version = true }) (new_app (codes "eve-tpcc"))

-- the program
abbrev pub program_app : App
program_app =
    with_subcommand (with_subcommand (with_subcommand (with_subcommand bare_app run_app.top) check_app.top)
    make_app.top) serve_app.top

-- an argument of this form, of its own command only
abbrev pub IsArgument : Rule → Arg → Type 0
IsArgument rule argument = (rule_of argument ≡ rule) × (argument.global ≡ false)

-- a command of this form, with no argument that its subcommands share
abbrev pub IsCommand : App → Command → Type 0
IsCommand app command = (app_of command ≡ app) × ((out-Command command).has_globals ≡ false)

-- if both commands were made, and these are their forms, the result is one with the second as a subcommand of the first, or none
abbrev pub Joins : Result Command AllocError → Result Command AllocError → Result Command AllocError → Type 0
Joins command subcommand result = (app below : App) → IfOk command (IsCommand app) → IfOk subcommand (IsCommand below)
    → IfOk result (IsCommand (with_subcommand app below.top))

-- ---- what the matches say

-- what was found for the arguments
abbrev pub rows_in : ArgMatches → List Row
rows_in matches = rows_of (found_of matches)

-- the text of the argument with this id
abbrev pub HasText : List Row → Text → String Global → Type 0
HasText rows id text = first_of id rows ≡ Some (string_bytes text)

-- the text of the argument with this id, which may be left out
abbrev pub HasOption : List Row → Text → Option (String Global) → Type 0
HasOption rows id text = first_of id rows ≡ option_map string_bytes text

-- whether the flag with this id was given
abbrev pub HasFlag : List Row → Text → Bool → Type 0
HasFlag rows id given = first_of id rows ≡ Some (if given then codes "true" else codes "false")

-- the text is this number in decimal digits, behind a plus or nothing
abbrev pub Spells : Text → ℕ → Type 0
Spells text number =
    IsNumeral 10 (without_leading_plus text)
    × (digits_value 10 (without_leading_plus text) ≡ number)

-- the number that the argument with this id spells
abbrev pub HasNumber : List Row → Text → ℕ → Type 0
HasNumber rows id number = IsSomeAnd (first_of id rows) (λ text. Spells text number)

-- the line is that of the subcommand that was met, by its name and its rows
abbrev pub IsLineOf : Line → Text × List Row → Type 0
IsLineOf (Run image batches workers store from at stats) met =
    (met.0 ≡ codes "run") × HasText met.1 (codes "IMAGE") image
    × HasText met.1 (codes "BATCHES") batches
    × HasNumber met.1 (codes "workers") workers
    × HasOption met.1 (codes "store") store
    × HasOption met.1 (codes "from") from
    × HasFlag met.1 (codes "at") at
    × HasFlag met.1 (codes "stats") stats
IsLineOf (Check image) met = (met.0 ≡ codes "check") × HasText met.1 (codes "IMAGE") image
IsLineOf (Make warehouses customers items) met =
    (met.0 ≡ codes "make") × HasNumber met.1 (codes "W") warehouses
    × HasNumber met.1 (codes "C") customers × HasNumber met.1 (codes "I") items
IsLineOf (Serve image workers from stats) met =
    (met.0 ≡ codes "serve") × HasText met.1 (codes "IMAGE") image × HasNumber met.1 (codes "workers") workers
    × HasOption met.1 (codes "from") from
    × HasFlag met.1 (codes "stats") stats

-- the numbers of the line are within their bounds
abbrev pub IsWithinBounds : Line → Type 0
IsWithinBounds (Run image batches workers store from at stats) = IsInRange 1 64 workers
IsWithinBounds (Check image) = ⊤
IsWithinBounds (Make warehouses customers items) =
    IsInRange 1 100 warehouses × IsInRange 1 3000 customers × IsInRange 1 100000 items
IsWithinBounds (Serve image workers from stats) = IsInRange 1 64 workers

-- ---- why the words are no line

-- the fault of an error of this kind
abbrev pub fault_by : ErrorKind → Error → LineFault
fault_by OutOfMemory error = Unread
fault_by _ error = Refused error

-- no line was read for want of memory, or the words are refused for one of these kinds
abbrev pub IsFaultOf : Kinds → LineFault → Type 0
IsFaultOf kinds (Refused error) = IsAmong (kind_of error) kinds
IsFaultOf kinds Unread = Unit {0}

abbrev pub status_of_kind : ErrorKind → ℕ
status_of_kind DisplayHelp = 0
status_of_kind DisplayVersion = 0
status_of_kind _ = 2

-- 0 where the words ask for help or the version, else 2
abbrev pub status_of : LineFault → ℕ
status_of (Refused error) = status_of_kind (kind_of error)
status_of Unread = 2
