mod RoundLaws
mod MarkLaws
mod EntryLaws
