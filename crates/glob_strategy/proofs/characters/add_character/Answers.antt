use Rattle.glob_strategy.proofs.lemmas.Building.{character_built}
use Rattle.glob_strategy.proofs.characters.add_character.Goals as goal

pub returns-clause-builds : goal.returns-clause-builds
returns-clause-builds c =
    character_built c.args.options c.args.builder.now c.add_last_bytes.new.builder c.push_bytes.new.self c.push_bytes-2.new.self c.add_three_bytes.new.builder c.add_four_bytes.new.builder c.push_union.new.self
    c.ascii_bytes.result c.bytes_between.result c.args.exit c.in_ok-last.last.one c.in_ok-last.last.two c.in_ok-last.last.three c.in_ok-ascii.ascii c.in_ok-pair.pair
    c.in_ok-three.three.low c.in_ok-three.three.middle c.in_ok-three.three.high c.in_ok-four.four.low c.in_ok-four.four.middle c.in_ok-four.four.high c.in_ok-start.start
    c.add_last_bytes.ensures.grows c.in_ok-last.ensures.one c.in_ok-last.ensures.two c.in_ok-last.ensures.three
    c.in_ok-ascii.ensures.pushed c.ascii_bytes.ensures c.in_ok-pair.ensures.pushed c.bytes_between.ensures
    c.add_three_bytes.ensures.grows c.in_ok-three.ensures.low c.in_ok-three.ensures.middle c.in_ok-three.ensures.high
    c.add_four_bytes.ensures.grows c.in_ok-four.ensures.low c.in_ok-four.ensures.middle c.in_ok-four.ensures.high
    c.in_ok-start.ensures.pushed
