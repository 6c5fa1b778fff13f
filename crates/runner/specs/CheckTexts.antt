-- The line that `check` writes.
use Rattle.std.specs.Prelude.{◌≡◌, ℕ, List, ◌++◌, codes, decimal, length, Ok, Option, Some, None}
use Rattle.std.specs.FinMap as map
use Rattle.std.specs.Io.KnownBytes.{Appends, Keeps}
use Rattle.std.specs.List.{filter_map}
use Rattle.catalog.specs.CardMap.{Cards}
use Rattle.catalog.specs.declared.card.CardKey.{CardKey}
use Rattle.catalog.specs.declared.card.CardKey.TheVariants as card_key
use Rattle.executor.specs.declared.refusal.Refusal.TheVariants as refusal
use Rattle.loader.specs.Image.{image}
use Rattle.records.specs.Io.{AppendsFront}
use Rattle.runner.specs.Runs.{Taken}
use Rattle.runner.specs.Text.{token_digits}
use Rattle.runner.specs.WholeRuns.{IsImageFault}
use Rattle.runner.specs.declared.fault.RunFault.{RunFault}
use Rattle.runner.specs.declared.fault.RunFault.TheVariants as run_fault
use Rattle.tpcc_model.specs.Database.{Database}
use Rattle.tpcc_model.specs.Serial.{State, opening}

abbrev pub warehouse_pick : CardKey → Option ℕ
warehouse_pick (card_key.Warehouse w) = Some w
warehouse_pick _ = None

abbrev pub warehouse_count : Cards → ℕ
warehouse_count cards = length (filter_map (λ e. warehouse_pick e.0) (map.entries cards))

-- `ok WAREHOUSES ROWS TOKEN`
abbrev pub check_text : Cards → State → List ℕ
check_text cards state =
    codes "ok " ++ decimal (warehouse_count cards) ++ codes " " ++ decimal (length (map.entries state.rows)) ++ codes " " ++ token_digits state.token ++ codes "\n"

-- the line of a database before any batch
abbrev pub opening_text : Database → List ℕ
opening_text db = check_text db.cards (opening db.cards db.rows)

-- the image loads as a database, whose line was written
abbrev pub ChecksImage : List ℕ → Taken → Taken → Type 0
ChecksImage bytes old new = (db : Database) × (image bytes ≡ Ok db) × Appends old new (opening_text db)

-- what is left if the line isn't written completely
abbrev pub LeavesCheck : RunFault → List ℕ → Taken → Taken → Type 0
LeavesCheck (run_fault.Load e) bytes old new = IsImageFault e bytes × Keeps old new
LeavesCheck (run_fault.Exec refusal.Memory) bytes old new = Keeps old new
LeavesCheck run_fault.Memory bytes old new = Keeps old new
LeavesCheck run_fault.Write bytes old new = (db : Database) × (image bytes ≡ Ok db) × AppendsFront old new (opening_text db)
LeavesCheck _ bytes old new = ⊥
