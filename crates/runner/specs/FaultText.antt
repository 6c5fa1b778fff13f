-- The lines that report faults.
use Rattle.std.specs.Prelude.{ℕ, List, [], ◌∷◌, ◌++◌, codes, decimal, Option, Some, None}
use Rattle.executor.specs.Refusals.{refusal_code, refusal_name}
use Rattle.image_records.specs.Faults as image
use Rattle.image_records.specs.declared.fault.LoadError.TheVariants as load_error
use Rattle.records.specs.Faults as batches
use Rattle.runner.specs.declared.fault.RunFault.{RunFault}
use Rattle.runner.specs.declared.fault.RunFault.TheVariants as run_fault
use Rattle.runner.specs.declared.store_fault.StoreFault.{StoreFault}
use Rattle.runner.specs.declared.store_fault.StoreFault.TheVariants as store_fault
use Rattle.runner.specs.declared.store_fault.StoredRunFault.{StoredRunFault}
use Rattle.runner.specs.declared.store_fault.StoredRunFault.TheVariants as stored_fault

abbrev pub part_of : RunFault → List ℕ
part_of (run_fault.Load e) = codes "image"
part_of (run_fault.Read e) = codes "batches"
part_of (run_fault.Exec r) = codes "run"
part_of run_fault.Write = codes "output"
part_of run_fault.Memory = codes "output"

abbrev pub code_of : RunFault → ℕ
code_of (run_fault.Load e) = image.code_of e
code_of (run_fault.Read e) = batches.code_of e
code_of (run_fault.Exec r) = refusal_code r
code_of run_fault.Write = 1
code_of run_fault.Memory = 2

abbrev pub name_of : RunFault → List ℕ
name_of (run_fault.Load e) = image.name_of e
name_of (run_fault.Read e) = batches.name_of e
name_of (run_fault.Exec r) = refusal_name r
name_of run_fault.Write = codes "Write"
name_of run_fault.Memory = codes "Memory"

-- the number of the bad record
abbrev pub place_of : RunFault → Option ℕ
place_of (run_fault.Load e) = image.place_of e
place_of (run_fault.Read e) = batches.place_of e
place_of (run_fault.Exec r) = None
place_of run_fault.Write = None
place_of run_fault.Memory = None

-- the condition that doesn't hold
abbrev pub condition_of : RunFault → Option ℕ
condition_of (run_fault.Load (load_error.Inconsistent k)) = Some k
condition_of _ = None

-- the number, if there is one, between two texts
abbrev pub number_text : List ℕ → Option ℕ → List ℕ → List ℕ
number_text before None after = []
number_text before (Some n) after = before ++ decimal n ++ after

-- `eve-tpcc: <part>: <code> <Name>`, the condition or the record if there is one, and a line feed
abbrev pub line_text : List ℕ → ℕ → List ℕ → Option ℕ → Option ℕ → List ℕ
line_text part code name condition place =
    codes "eve-tpcc: " ++ part ++ codes ": " ++ decimal code ++ codes " " ++ name ++ number_text (codes "(") condition (codes ")") ++ number_text (codes " at record ") place [] ++ 10 ∷ []

-- the line of a fault of a run
unfoldable pub fault_text : RunFault → List ℕ
fault_text f = line_text (part_of f) (code_of f) (name_of f) (condition_of f) (place_of f)

-- ---- a run that stores its last state
abbrev pub store_code_of : StoreFault → ℕ
store_code_of store_fault.Write = 1
store_code_of store_fault.Memory = 2

abbrev pub store_name_of : StoreFault → List ℕ
store_name_of store_fault.Write = codes "Write"
store_name_of store_fault.Memory = codes "Memory"

unfoldable pub store_fault_text : StoreFault → List ℕ
store_fault_text f = line_text (codes "store") (store_code_of f) (store_name_of f) None None

-- the line of a fault of such a run, and that of the image that wasn't written
abbrev pub stored_fault_text : StoredRunFault → List ℕ
stored_fault_text (stored_fault.Run f) = fault_text f
stored_fault_text (stored_fault.Store f) = store_fault_text f
stored_fault_text (stored_fault.Both f store) = fault_text f ++ store_fault_text store
