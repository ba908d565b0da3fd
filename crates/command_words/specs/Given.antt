-- What `clap` found, argument by argument.
use Rattle.std.specs.Prelude.{List, [], Option, Bool, false, codes, unwrap_or, map, option_map}
use Rattle.std.specs.Str.{bytes_eq}
use Rattle.std.specs.Option.{option_map_or}
use Rattle.clap.specs.Words.{Row, Text, all_of, first_of}
use Rattle.command_words.specs.declared.given.Given.{Given}

-- the words of the job, its names, and the values of its options
pub record Found : Type 0 where
  pub job : Option Text
  pub names : List Text
  pub rules : Option Text
  pub depth : Option Text
  pub certificate : Option Text
  pub json : Bool

abbrev pub found_in : List Row → Found
found_in rows = record {
  job = first_of (codes "job") rows;
  names = unwrap_or (all_of (codes "names") rows) [];
  rules = first_of (codes "rules") rows;
  depth = first_of (codes "depth") rows;
  certificate = first_of (codes "cert") rows;
  json = option_map_or (λ value. bytes_eq value (codes "true")) (first_of (codes "json") rows) false;
}

-- the same, of what the code holds
abbrev pub found_of : Given → Found
found_of given = record {
  job = option_map (λ text. text.now) given.job;
  names = unwrap_or (option_map (λ texts. map (λ text. text.now) texts.now) given.names) [];
  rules = option_map (λ text. text.now) given.rules;
  depth = option_map (λ text. text.now) given.depth;
  certificate = option_map (λ text. text.now) given.certificate;
  json = given.json;
}
