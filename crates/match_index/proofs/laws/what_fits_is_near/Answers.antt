use Rattle.match_index.proofs.NearLemmas.{fits_near}
use Rattle.match_index.proofs.laws.what_fits_is_near.Goals as goal

pub returns : goal.returns
returns c = fits_near
