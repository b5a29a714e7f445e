-- Under what it goes through a folder is a date.
use Rattle.std.proofs.Common.{sym}
use Rattle.dates.proofs.Dates.{text-exact}
use Rattle.folder.proofs.main.Goals as goal

pub go_through-requires : goal.go_through-requires
go_through-requires c =
    let (y, m, d, exists, text, is) = (text-exact _ _).0 (sym c.in-Some.ensures) in
    (y, m, d, exists, is)
