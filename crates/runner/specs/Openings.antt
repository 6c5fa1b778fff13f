-- The executor of an image.
use Rattle.std.specs.Prelude.{◌≡◌, ◌⊎◌, ℕ, List, Ok}
use Rattle.executor.specs.Chains.{Chain, opening_chain}
use Rattle.executor.specs.States.{IsSoundState}
use Rattle.executor.specs.declared.refusal.Refusal.TheVariants as refusal
use Rattle.image_records.specs.declared.fault.LoadError.TheVariants as load_error
use Rattle.loader.specs.Image.{image}
use Rattle.runner.specs.WholeRuns.{IsImageFault}
use Rattle.runner.specs.declared.fault.RunFault.{RunFault}
use Rattle.runner.specs.declared.fault.RunFault.TheVariants as run_fault
use Rattle.tpcc_model.specs.Database.{Database}
use Rattle.tpcc_model.specs.Serial.{opening}

-- the image loads as a database, whose chain this is
abbrev pub IsOpened : List ℕ → Chain → Type 0
IsOpened bytes chain = (db : Database) × (image bytes ≡ Ok db) × (chain ≡ opening_chain db.cards db.rows)

-- the image doesn't load, or couldn't be read; or there was no memory for an executor
abbrev pub IsUnopened : RunFault → List ℕ → Type 0
IsUnopened (run_fault.Load e) bytes = IsImageFault e bytes
IsUnopened (run_fault.Exec refusal.Memory) bytes = (db : Database) × (image bytes ≡ Ok db) × IsSoundState db.cards (opening db.cards db.rows)
IsUnopened _ bytes = ⊥

-- the faults before any batch
abbrev pub IsOfOpening : RunFault → Type 0
IsOfOpening (run_fault.Load e) = Unit {0}
IsOfOpening (run_fault.Exec refusal.Memory) = Unit {0}
IsOfOpening _ = ⊥

-- there was no memory for a loaded database's pages, or for their tree
abbrev pub IsRefused : RunFault → Type 0
IsRefused e = (e ≡ run_fault.Load load_error.Memory) ⊎ (e ≡ run_fault.Exec refusal.Memory)
