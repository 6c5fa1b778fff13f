use Rattle.loader.proofs.late_rows.LateRows.into_list.Goals as goal

pub returns-clause-kinds : goal.returns-clause-kinds
returns-clause-kinds c = c.self.invariant.fit
