use Rattle.std.proofs.Common.{◌≡◌, ◌++◌, ◌∷◌, [], None, rules}
use Rattle.suite_file.proofs.Ended.{kept_closed}
use Rattle.suite_file.specs.NameTables.{Keeps}
use Rattle.suite_file.proofs.progress.Progress.close.Goals as goal

pub returns-clause-kept : goal.returns-clause-kept
returns-clause-kept c =
    let current : c.take.new.self ≡ None = search rules in
    let ended : c.add.new.self ≡ c.args.self.now.ended ++ c.in-Some.test ∷ [] = search rules in
    let keeps : Keeps c.args.self.now.names c.keep_name.new.names c.in-Some.test.name = rw c.bytes.ensures at c.in_ok-keep_name.ensures in
    kept_closed c.args.self.now (record { ended = c.add.new.self; names = c.keep_name.new.names; current = c.take.new.self }) c.in-Some.test c.requires ended keeps current
