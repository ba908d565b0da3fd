mod Lists
mod Marks
