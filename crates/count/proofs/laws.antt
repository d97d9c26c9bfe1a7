pub mod Truth
pub mod Laws
pub mod Lists
pub mod Digits
pub mod Words
pub mod Axes
