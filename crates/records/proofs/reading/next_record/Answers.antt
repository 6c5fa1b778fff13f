use Rattle.std.proofs.Common.{◌∙◌, inl}
use Rattle.csv.specs.Records.{fields_of}
use Rattle.records.proofs.RecordLemmas.{records_left-found, records_left-none}
use Rattle.records.proofs.reading.next_record.Goals as goal

pub returns-in-Ok-clause-found : goal.returns-in-Ok-clause-found
returns-in-Ok-clause-found c =
    λ is. let read = rw is at (c.in-Ok.ensures.reads c.requires.trim c.requires.ready) in
    (records_left-found c.args.reader.now c.read_byte_record.new.self (fields_of c.read_byte_record.new.row) c.requires read).0

pub returns-in-Ok-clause-going : goal.returns-in-Ok-clause-going
returns-in-Ok-clause-going c =
    λ is. let read = rw is at (c.in-Ok.ensures.reads c.requires.trim c.requires.ready) in
    let left = records_left-found c.args.reader.now c.read_byte_record.new.self (fields_of c.read_byte_record.new.row) c.requires read in
    record {
      config = read.2 ∙ c.requires.config;
      trim = read.3 ∙ c.requires.trim;
      flexible = c.in-Ok.ensures.flexible ∙ c.requires.flexible;
      ready = inl (c.in-Ok.ensures.ready c.requires.trim);
      bytes = left.1;
      known = left.2;
    }

pub returns-in-Ok-clause-none : goal.returns-in-Ok-clause-none
returns-in-Ok-clause-none c =
    λ is. let read = rw is at (c.in-Ok.ensures.reads c.requires.trim c.requires.ready) in
    records_left-none c.args.reader.now c.read_byte_record.new.self (fields_of c.read_byte_record.new.row) c.requires read
