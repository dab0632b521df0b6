use Rattle.book.proofs.Lawful.{lawful}
use Rattle.book.proofs.Book.keeps_law.Goals as goal

pub returns : goal.returns
returns g c = λ h life. lawful g.L.Lock g.met.L.Lock.sound life
