use Rattle.interleave.proofs.play.Play.take.Goals as goal

pub returns-in-Read : goal.returns-in-Read
returns-in-Read c = rw c.in-Read.is c.read.ensures

pub returns-in-Publish : goal.returns-in-Publish
returns-in-Publish c = rw c.in-Publish.is (rw c.as_slice.ensures.value at c.publish.ensures)

pub returns-in-TakeNote : goal.returns-in-TakeNote
returns-in-TakeNote c = rw c.in-TakeNote.is c.take_note.ensures
