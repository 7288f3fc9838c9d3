use Rattle.service_files.proofs.Describing.{read_is_described, described_is_read}
use Rattle.service_files.proofs.laws.files_describe_services.Goals as goal

pub returns-clause-read : goal.returns-clause-read
returns-clause-read c = read_is_described

pub returns-clause-described : goal.returns-clause-described
returns-clause-described c = described_is_read
