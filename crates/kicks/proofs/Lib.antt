mod ChangeLaws
pub mod CountedLaws
mod EndsLaws
mod ExchangeLaws
mod GlobalLaws
mod KickingLaws
pub mod KindLaws
mod PartLaws
mod ShuffleLaws
