use Rattle.std.proofs.Common.{lit<, rules}
use Rattle.std.proofs.lemmas.Iterator.{items_from_collect}
use Rattle.std.proofs.lemmas.Iterator.Consumers.{YieldsList-at}
use Rattle.std.proofs.lemmas.Iterator.Splits.{YieldsList-from_str_split}
use Rattle.hexadecimal.specs.Digits.{byte_of}
use Rattle.hexadecimal.proofs.MapWhile.{YieldsList-from_map_while}
use Rattle.hexadecimal.proofs.bytes.Goals as goal

pub returns : goal.returns
returns c =
    items_from_collect _ c.collect.ensures.ran
    (YieldsList-from_map_while _ byte_of
    (YieldsList-at c.map_while.ensures.source (YieldsList-from_str_split 32 c.args.text.now (lit< tt) c.split.ensures.text c.split.ensures.has_more c.split.ensures.pattern))
    c.map_while.ensures.closure
    (λ x r q k. search rules))
