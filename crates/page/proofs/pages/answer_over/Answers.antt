use Rattle.std.proofs.Common.{refl}
use Rattle.page.specs.declared.faults.ConsoleFault.TheVariants.{Page}
use Rattle.page.specs.Answers.{refused}
use Rattle.page.proofs.Printed.{text_appended}
use Rattle.page.proofs.Series.{page_answered}
use Rattle.page.proofs.pages.answer_over.Goals as goal

pub returns-in_ok-rules-in-Ok-clause-adds : goal.returns-in_ok-rules-in-Ok-clause-adds
returns-in_ok-rules-in-Ok-clause-adds g c =
    let a = page_answered c.stage_count.result c.move_count.result c.in-Ok.ensures
    c.in_ok-rules-in-Ok.ensures.adds
    c.stage_count.ensures c.move_count.ensures in
    record { bytes = a.0; adds = a.1; answers = a.2 }

pub returns-in_ok-extend_from_slice-in-Err-clause-adds : goal.returns-in_ok-extend_from_slice-in-Err-clause-adds
returns-in_ok-extend_from_slice-in-Err-clause-adds g c =
    record {
      bytes = refused (Page c.in-Err.fault);
      adds = text_appended _ _ _ c.in_ok-extend_from_slice-in-Err.ensures.items c.as_bytes.ensures.value
          c.in_ok-write_refused-in-Err.ensures c.new-told.ensures.bytes;
      answers = ((g.S.Program.meaning c.load.new.store, c.in-Err.ensures), refl);
    }
