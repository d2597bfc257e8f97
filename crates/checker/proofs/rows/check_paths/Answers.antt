use Rattle.std.proofs.Common.{length, sym, refl, ◌∙◌}
use Rattle.checker.specs.Outcomes.{held}
use Rattle.checker.proofs.Finds.{sound_if, enough_if, short_if}
use Rattle.checker.proofs.rows.check_paths.Goals as goal

pub returns-in-Some-clause-does : goal.returns-in-Some-clause-does
returns-in-Some-clause-does c =
    let found = c.in-Some.ensures in
    ((c.requires.onward, found.0, found.1), refl)

pub returns-then-not-has_room-clause-does : goal.returns-then-not-has_room-clause-does
returns-then-not-has_room-clause-does c =
    let was = held c.args.sheet.now c.args.tables.now in (
      (
        record { some = c.requires.some; onward = c.requires.onward; moving = c.in_default.ensures },
        short_if (length c.args.paths.now.stages.now) was (sym c.if-not-has_room.ensures),
      ),
      refl,
    )

pub check_lines-requires : goal.check_lines-requires
check_lines-requires c =
    let paths = c.args.paths.now in
    let was = held c.args.sheet.now c.args.tables.now in
    let enough = enough_if (length paths.stages.now) was (sym c.has_room.ensures ∙ c.if-not-has_room.false) in
    record {
      sound = sound_if paths.stages.now paths.moves.now paths.within c.requires.onward c.in_default.ensures;
      lines = c.requires.lines;
      formed = c.requires.formed;
      sheet = enough.0;
      room = record { reached = enough.1; shortest = enough.2; longest = enough.3 };
    }

pub returns-clause-does : goal.returns-clause-does
returns-clause-does c =
    let all = c.check_lines.ensures in
    let was = held c.args.sheet.now c.args.tables.now in
    let enough = enough_if (length c.args.paths.now.stages.now) was (sym c.has_room.ensures ∙ c.if-not-has_room.false) in (
      (
        record { some = c.requires.some; onward = c.requires.onward; moving = c.in_default.ensures },
        enough,
      ),
      refl,
      record {
        names = all.names;
        reached = all.spent.reached;
        shortest = all.spent.shortest;
        longest = all.spent.longest;
      },
    )
