-- What tells a registry from all others, and is fixed when it is opened.
pub use Rattle.registry_snapshots_core.specs.Copies.{Identity, identity}
