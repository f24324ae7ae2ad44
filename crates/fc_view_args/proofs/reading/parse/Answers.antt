use Rattle.std.proofs.Common.{◌∙◌, ap, inl, inr}
use Rattle.clap.specs.Words.{app_of, is_simple_and_free, kind_of}
use Rattle.fc_args.proofs.HyphenLemmas.{strays_are, texts}
use Rattle.fc_view_args.proofs.Parsed.{parse_done, parse_refused}
use Rattle.fc_view_args.proofs.reading.parse.Goals as goal

pub returns-in-Ok-try_get_matches_from : goal.returns-in-Ok-try_get_matches_from
returns-in-Ok-try_get_matches_from c =
    let done = c.in-Ok-try_get_matches_from in
    c.wanted_in.ensures
    ∙ parse_done (texts c.args.words.now) (strays_are c.args.words.now ∙ c.requires) (app_of c.in-Ok.command) c.in-Ok.ensures done.matches done.ensures.matches
    (done.ensures.kinds (ap is_simple_and_free c.in-Ok.ensures))

pub returns : goal.returns
returns c =
    let refused = c.in-Err-try_get_matches_from in
    elim (refused.ensures.kinds (ap is_simple_and_free c.in-Ok.ensures)) [
      | inl memory ↦ absurd (c.in_default.not-OutOfMemory (c.kind.ensures ∙ memory))
      | inr among ↦ parse_refused (texts c.args.words.now) (strays_are c.args.words.now ∙ c.requires) (app_of c.in-Ok.command) c.in-Ok.ensures (kind_of refused.error) among
    ]
