-- How contracts see a line of a keyring.
use Rattle.sasl.specs.declared.keyring.Entry.{Entry}
use Rattle.sasl.specs.Settings.{Cookie}

abbrev pub cookie_said : Entry → Cookie
cookie_said entry = record { id = entry.id.now; secret = entry.secret.now }
