use Rattle.std.proofs.Common.{Global, map, rules, string_bytes}
use Rattle.reader_answers.specs.Answers.{Gives}
use Rattle.command_words.specs.WordReading.{is_memory, request_of}
use Rattle.command_words.proofs.AskedRequests.{asks-only, asks-request_of}
use Rattle.command_words.proofs.RequestRanges.{given_numbers, given_ranges}
use Rattle.command_words.proofs.reading.request_of.Goals as goal

pub returns : goal.returns
returns c =
    let words = map (string_bytes {Z = Global}) c.args.words.now.items in
    let gives : Gives is_memory c.words_request.result (request_of words) = search rules in
    let asks = asks-request_of words in
    record {
      gives = gives;
      meaning = asks;
      only = asks-only words;
      ranges = given_ranges words (request_of words) c.words_request.result gives asks;
      in_table = given_numbers words (request_of words) c.words_request.result gives asks;
    }
