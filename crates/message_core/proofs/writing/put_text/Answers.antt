use Rattle.message_core.proofs.writing.put_text.Goals as goal

pub returns-clause-string : goal.returns-clause-string
returns-clause-string g c = (c.in-Ok.ensures.0, c.utf8.text, c.requires.clean)
