-- How contracts see the words that are left of a command.
use Rattle.std.specs.Prelude.{List}
use Rattle.names.specs.Texts.{Text}
use Rattle.service_files.specs.declared.words.Words.{Words}
use Rattle.service_files.specs.ServiceFiles.{words_of}

abbrev pub words_left : Words → List Text
words_left words = words_of words.left.now
