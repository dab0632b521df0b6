use Rattle.std.proofs.Common.{◌≡◌, map}
use Rattle.std.specs.List.{range_with_len}
use Rattle.std.proofs.lemmas.List.FromFn.{fill_by_all}
use Rattle.rows.proofs.Lending.{same_rows}
use Rattle.clh.specs.Accesses.{new_words, outside}
use Rattle.clh.proofs.words.WordsAlgorithm.new.Goals as goal

pub returns : goal.returns
returns c =
    let made = c.from_fn.ensures.items in
    let workers : c.from_fn.result ≡ map outside (range_with_len 0 16) = fill_by_all outside _ 16 (outside 0) made.long (λ k l. let gives = made.at k (outside 0) l in cc) in
    cc (same_rows c.new.result new_words.nodes c.new.ensures)
