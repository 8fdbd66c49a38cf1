-- what a look at a prefix that waits shows
pub use Rattle.path_search.specs.Looks.{Shows}
