use Rattle.std.proofs.Common.{refl, sym, ap, ◌∙◌, inl, inr}
use Rattle.command_io.specs.Notes.{note_of}
use Rattle.command_io.specs.declared.refusal.Refusal.TheVariants.{Memory}
use Rattle.isoform.proofs.Endings.{put_as}
use Rattle.isoform.proofs.run.refuse.Goals as goal
use Rattle.isoform.proofs.run.refuse.Goals.{in-WriteFault, in-Memory, in_default+in-Ok}

pub returns-in-Err : goal.returns-in-Err
returns-in-Err g c = (Memory, inr (refl, c.in_default.not-WriteFault), c.status.ensures, c.tell-in-Err.ensures)

pub returns : goal.returns
returns g c =
    let note = note_of c.args.refusal in (
      c.args.refusal,
      inl refl,
      c.status-2.ensures,
      elim c.match-refusal.branch [
        | in-WriteFault w ↦ put_as g.M.Sink.written g.M.Sink.faults c.args.notes.now w.tell.new.notes
            c.match-refusal.notes _ note w.notes-is (ap note_of (sym w.in-WriteFault.is)) w.tell.ensures
        | in-Memory w ↦ put_as g.M.Sink.written g.M.Sink.faults c.args.notes.now w.tell-in-Memory.new.notes
            c.match-refusal.notes _ note w.notes-is (ap note_of (sym w.in-Memory.is)) w.tell-in-Memory.ensures
        | in_default+in-Ok w ↦ put_as g.M.Sink.written g.M.Sink.faults c.args.notes.now w.tell-in-Ok.new.notes
            c.match-refusal.notes _ note w.notes-is (w.deref.ensures.value ∙ w.in-Ok.ensures) w.tell-in-Ok.ensures
      ],
    )
