-- Cards and rows gathered so far.
use Rattle.tpcc_model.specs.Database.{Database, database}
use Rattle.loader.specs.declared.gathered_tables.GatheredTables.{GatheredTables}

abbrev pub gathered_database : GatheredTables → Database
gathered_database tables = database tables.cards tables.rows
